-- A sound queue with one cell more, with one less, and its most urgent cell.
use Rattle.std.specs.Prelude.{◌≡◌, ℕ, ◌+◌, ◌-◌, ◌^◌, ◌<◌, ◌≤◌, true, false, ◌⊎◌, List, [], length, replicate, ℤ, pos, negsuc, ◌<ℤ◌, is_some, Some, None, Option, FitsSigned, ◌≢◌, int_le, slice_index, slice_set, refl}
use Rattle.std.proofs.Common.{sym, ap, subst, ◌∙◌, inl, inr, arith, length-set}
use Rattle.std.specs.Int.{w64}
use Rattle.std.specs.List.{ContainsAt, AllByRecursion}
use Rattle.std.proofs.ByRecursion.{All-weaker, all-has}
use Rattle.std.proofs.lemmas.List.{get_or-set_same, get_or-set_other, get_or_past, get_or-replicate}
use Rattle.std.proofs.lemmas.Bool.{cases_eq, cases_lt, eq-eqb, ne_eqb, le-leb, true≢false}
use Rattle.discipline.specs.Meaning.{Waiting, At, Same, Limits, stays_at, waits_at, passing, count_at, with_cell, without_cell, MostUrgent, Before, due_of}
use Rattle.discipline.specs.declared.stay.Stay.{Stay}
use Rattle.refusal.proofs.Options.{none_some, some_one}
use Rattle.discipline.proofs.Stays.{at_stay}
use Rattle.discipline.proofs.Counting.{passing_more, passing_few, passing_find, passing_zero, with_at, with_off, without_at, without_off, count_same, count_with, count_with_other, count_without, count_without_other, empty_count}
use Rattle.table.specs.Kinds.{due_upto}
use Rattle.table.specs.Order.{Rising, put_in, first_from, taken_from, LeastFrom}
use Rattle.table.specs.declared.due.DueCell.{DueCell}
use Rattle.table.proofs.Laws.{reflexive, length_put_in, has_put_in, has_put_in_old, all_put_in, first_from_least, length_taken_from, has_taken_from_cases, all_taken_from}
use Rattle.table.specs.Lexical.{due_lawful}
use Rattle.urgent.specs.Slack.{waiting_by, due_cell, mark, cell_of, next_due, Stays, Sound, earliest}
use Rattle.urgent.specs.Due.{due_port, due_before, due_same, mark_first}
use Rattle.table.proofs.Rising.{all_both, rising_sorted, rising_put_in, rising_taken, taken_once}

module _ (st : List (Option Stay)) (ct : List ℕ) (xs : List DueCell) (room : ℕ) (ok : Sound st ct xs room) where
  -- a cell that waits has a number up to 255
  pub in_range : (c : ℕ) (s : Stay) → waiting_by st c ≡ Some s → c < 256
  in_range c s h =
      let long = ok.stays_long in
      elim (cases_lt c 256) [ inl l ↦ l | inr l ↦ absurd (none_some s (get_or_past st c None (omega arith)) h) ]

  pub limits : Limits (waiting_by st)
  limits c s h = let l = in_range c s h in (omega arith, (ok.queued c s h).0)

  -- a changed stay, and all others
  module _ (c : ℕ) (l : c < 256) (o : Option Stay) where
    pub set_here : waiting_by (slice_set st c o) c ≡ o
    set_here = let long = ok.stays_long in get_or-set_same st c o None (omega arith)

    pub set_other : (k : ℕ) → (k ≢ c) → waiting_by (slice_set st c o) k ≡ waiting_by st k
    set_other k n = get_or-set_other st c k o None n

  pub same_with : (c : ℕ) (s : Stay) → c < 256 → Same (waiting_by (slice_set st c (Some s))) (with_cell (waiting_by st) c s)
  same_with c s l k =
      elim (cases_eq k c) [
        | inl q ↦ ap (waiting_by (slice_set st c (Some s))) q ∙ set_here c l (Some s) ∙ sym (with_at (waiting_by st) c s k q)
        | inr q ↦ set_other c l (Some s) k q ∙ sym (with_off (waiting_by st) c s k q)
      ]

  pub same_without : (c : ℕ) → c < 256 → Same (waiting_by (slice_set st c None)) (without_cell (waiting_by st) c)
  same_without c l k =
      elim (cases_eq k c) [
        | inl q ↦ ap (waiting_by (slice_set st c None)) q ∙ set_here c l None ∙ sym (without_at (waiting_by st) c k q)
        | inr q ↦ set_other c l None k q ∙ sym (without_off (waiting_by st) c k q)
      ]

  -- the count of one port changes
  count_changed : (q v : ℕ) (w : Waiting) (p : ℕ) → q ≤ 31 → p < 32 → v ≡ count_at w q → ((q ≢ p) → count_at (waiting_by st) p ≡ count_at w p)
      → slice_index (slice_set ct q v) p ≡ count_at w p
  count_changed q v w p a m here other =
      let long = ok.counts_long in
      elim (cases_eq q p) [
        | inl e ↦ ap (λ x. slice_index (slice_set ct q v) x) (sym e) ∙ get_or-set_same ct q v 0 (omega arith) ∙ here ∙ ap (count_at w) e
        | inr e ↦ get_or-set_other ct q p v 0 (λ d. e (sym d)) ∙ ok.counted p m ∙ other e
      ]

  -- where a cell does not wait, there is room for it
  module _ (c : ℕ) (s : Stay) (l : c < 256) (free : waiting_by st c ≡ None) where
    one_more : passing 256 (λ k. is_some (waiting_by (slice_set st c (Some s)) k)) ≡ passing 256 (λ k. is_some (waiting_by st k)) + 1
    one_more =
        passing_more 256 (λ k. is_some (waiting_by st k)) (λ k. is_some (waiting_by (slice_set st c (Some s)) k)) c l
        (ap is_some free) (ap is_some (set_here c l (Some s))) (λ k n. ap is_some (set_other c l (Some s) k n))

    pub has_room : length xs < room
    has_room =
        let a = one_more in
        let b = passing_few 256 (λ k. is_some (waiting_by (slice_set st c (Some s)) k)) in
        let n = ok.size in
        let r = ok.room_for_all in
        omega arith

    other_cell : (y : DueCell) → Stays st y → y.cell ≢ c
    other_cell y h e = none_some h.0 (ap (waiting_by st) e ∙ free) h.1

    module _ (port : s.port ≤ 31) (due : int_le earliest s.due ≡ true) where
      pub sound_add : Sound (slice_set st c (Some s)) (slice_set ct s.port (slice_index ct s.port + 1)) (put_in due_upto (due_cell c s) xs) room
      sound_add =
          record {
            stays_long = length-set st c (Some s) ∙ ok.stays_long;
            counts_long = length-set ct s.port (slice_index ct s.port + 1) ∙ ok.counts_long;
            room_for_all = ok.room_for_all;
            rising = rising_put_in due_upto due_lawful (due_cell c s) xs
                (All-weaker (Stays st) (λ y. due_upto y (due_cell c s) ≡ true → due_upto (due_cell c s) y ≢ true)
                (λ y h a b. other_cell y h (ap (λ d. d.cell) (due_same y (due_cell c s) a b))) xs ok.staying)
                ok.rising;
            staying = all_put_in due_upto (due_cell c s) (Stays (slice_set st c (Some s))) xs (s, set_here c l (Some s), refl)
                (All-weaker (Stays st) (Stays (slice_set st c (Some s))) (λ y h. (h.0, set_other c l (Some s) y.cell (other_cell y h) ∙ h.1, h.2)) xs ok.staying);
            queued = λ k t h.
                elim (cases_eq k c) [
                  | inl q ↦
                      (let same : t ≡ s = some_one t s (ap (waiting_by (slice_set st c (Some s))) (sym q) ∙ h) (set_here c l (Some s)) in (
                        subst (λ u. u.port ≤ 31) (sym same) port,
                        ap (λ u. int_le earliest u.due) same ∙ due,
                        subst (λ x. ContainsAt (put_in due_upto (due_cell c s) xs) (due_cell x t)) (sym q)
                            (subst (λ u. ContainsAt (put_in due_upto (due_cell c s) xs) (due_cell c u)) (sym same) (has_put_in due_upto (due_cell c s) xs)),
                      ))
                  | inr q ↦
                      (let old = ok.queued k t (sym (set_other c l (Some s) k q) ∙ h) in
                      (old.0, old.1, has_put_in_old due_upto (due_cell c s) xs (due_cell k t) old.2))
                ];
            size = length_put_in due_upto (due_cell c s) xs ∙ ap (λ n. n + 1) ok.size ∙ sym one_more;
            counted = λ p m.
                count_changed s.port (slice_index ct s.port + 1) (waiting_by (slice_set st c (Some s))) p port m
                (ap (λ n. n + 1) (ok.counted s.port (omega arith)) ∙ sym (count_with (waiting_by st) c s s.port l free refl) ∙ sym (count_same _ _ s.port (same_with c s l)))
                (λ n. sym (count_with_other (waiting_by st) c s p free n) ∙ sym (count_same _ _ p (same_with c s l)));
          }

  -- a cell that waits is told from its own place in the order on
  module _ (c : ℕ) (s : Stay) (waits : waiting_by st c ≡ Some s) where
    l : c < 256
    l = in_range c s waits

    at_port : At (waiting_by st) s.port c
    at_port = ap (stays_at s.port) waits ∙ eq-eqb s.port s.port refl

    one_less : passing 256 (λ k. is_some (waiting_by st k)) ≡ passing 256 (λ k. is_some (waiting_by (slice_set st c None) k)) + 1
    one_less =
        passing_more 256 (λ k. is_some (waiting_by (slice_set st c None) k)) (λ k. is_some (waiting_by st k)) c l
        (ap is_some (set_here c l None)) (ap is_some waits) (λ k n. sym (ap is_some (set_other c l None k n)))

    pub found : first_from due_upto (due_cell c s) xs ≡ Some (due_cell c s)
    found = least (first_from due_upto (due_cell c s) xs) refl (first_from_least due_upto due_lawful (due_cell c s) xs (rising_sorted due_upto due_lawful xs ok.rising))
      where
        least : (r : Option DueCell) → first_from due_upto (due_cell c s) xs ≡ r → LeastFrom due_upto (due_cell c s) xs r → r ≡ Some (due_cell c s)
        least None e h = absurd (true≢false (sym (reflexive due_upto due_lawful (due_cell c s)) ∙ all-has (λ y. due_upto (due_cell c s) y ≡ false) xs (due_cell c s) h (ok.queued c s waits).2))
        least (Some x) e h =
            ap (λ y. Some y) (due_same x (due_cell c s)
            (all-has (λ y. due_upto (due_cell c s) y ≡ true → due_upto x y ≡ true) xs (due_cell c s) h.2 (ok.queued c s waits).2 (reflexive due_upto due_lawful (due_cell c s)))
            h.1)

    module _ (m : DueCell) (told : first_from due_upto m xs ≡ Some (due_cell c s)) where
      left : AllByRecursion (λ y. Stays st y × (due_upto y (due_cell c s) ≡ true → due_upto (due_cell c s) y ≢ true)) (taken_from due_upto m xs)
      left = all_both (Stays st) (λ y. due_upto y (due_cell c s) ≡ true → due_upto (due_cell c s) y ≢ true) (taken_from due_upto m xs)
          (all_taken_from due_upto m (Stays st) xs ok.staying) (taken_once due_upto due_lawful m (due_cell c s) xs ok.rising told)

      another : (y : DueCell) → Stays st y × (due_upto y (due_cell c s) ≡ true → due_upto (due_cell c s) y ≢ true) → y.cell ≢ c
      another y h e =
          let same : h.0.0 ≡ s = some_one h.0.0 s h.0.1 (ap (waiting_by st) e ∙ waits) in
          let is : due_cell c s ≡ y = ap (due_cell c) (sym same) ∙ ap (λ k. due_cell k h.0.0) (sym e) ∙ h.0.2 in
          let r = reflexive due_upto due_lawful (due_cell c s) in
          h.1 (subst (λ z. due_upto z (due_cell c s) ≡ true) is r) (subst (λ z. due_upto (due_cell c s) z ≡ true) is r)

      pub sound_remove : Sound (slice_set st c None) (slice_set ct s.port (slice_index ct s.port - 1)) (taken_from due_upto m xs) room
      sound_remove =
          let low = (ok.queued c s waits).0 in
          let here = ok.counted s.port (omega arith) in
          let less = count_without (waiting_by st) c s.port l at_port in
          record {
            stays_long = length-set st c None ∙ ok.stays_long;
            counts_long = length-set ct s.port (slice_index ct s.port - 1) ∙ ok.counts_long;
            room_for_all = ok.room_for_all;
            rising = rising_taken due_upto due_lawful m xs ok.rising;
            staying = All-weaker (λ y. Stays st y × (due_upto y (due_cell c s) ≡ true → due_upto (due_cell c s) y ≢ true)) (Stays (slice_set st c None))
                (λ y h. (h.0.0, set_other c l None y.cell (another y h) ∙ h.0.1, h.0.2)) (taken_from due_upto m xs) left;
            queued = λ k t h.
                elim (cases_eq k c) [
                  | inl q ↦ absurd (none_some t (set_here c l None) (ap (waiting_by (slice_set st c None)) (sym q) ∙ h))
                  | inr q ↦
                      (let old = ok.queued k t (sym (set_other c l None k q) ∙ h) in (
                        old.0,
                        old.1,
                        elim (has_taken_from_cases due_upto m xs (due_cell c s) (due_cell k t) told old.2) [
                          | inl e ↦ absurd (q (ap (λ d. d.cell) e))
                          | inr e ↦ e
                        ],
                      ))
                ];
            size =
                let a = length_taken_from due_upto m xs (due_cell c s) told in
                let b = ok.size in
                let e = one_less in
                omega arith;
            counted = λ p n.
                count_changed s.port (slice_index ct s.port - 1) (waiting_by (slice_set st c None)) p low n
                (let f = count_same (waiting_by (slice_set st c None)) (without_cell (waiting_by st) c) s.port (same_without c l) in omega arith)
                (λ d. sym (count_without_other (waiting_by st) c p (ap (stays_at p) waits ∙ ne_eqb s.port p d)) ∙ sym (count_same _ _ p (same_without c l)));
          }

  -- the first due cell of a port where some cell waits is there, and not after that cell
  module _ (p c : ℕ) (s : Stay) (waits : waiting_by st c ≡ Some s) (at : s.port ≡ p) where
    abbrev Next : Type 0
    Next =
        (x : ℕ) × (t : Stay) × (first_from due_upto (mark p) xs ≡ Some (due_cell x t)) × (waiting_by st x ≡ Some t) × (t.port ≡ p)
        × (due_upto (due_cell x t) (due_cell c s) ≡ true)

    pub next_is : Next
    next_is = go (first_from due_upto (mark p) xs) refl (first_from_least due_upto due_lawful (mark p) xs (rising_sorted due_upto due_lawful xs ok.rising))
      where
        before : due_upto (mark p) (due_cell c s) ≡ true
        before = mark_first p (due_cell c s) at (ok.queued c s waits).1

        go : (r : Option DueCell) → first_from due_upto (mark p) xs ≡ r → LeastFrom due_upto (mark p) xs r → Next
        go None e h = absurd (true≢false (sym before ∙ all-has (λ y. due_upto (mark p) y ≡ false) xs (due_cell c s) h (ok.queued c s waits).2))
        go (Some y) e h =
            let own = all-has (Stays st) xs y ok.staying h.0 in
            let low = due_port (mark p) y h.1 in
            let least = all-has (λ z. due_upto (mark p) z ≡ true → due_upto y z ≡ true) xs (due_cell c s) h.2 (ok.queued c s waits).2 before in
            let high = due_port y (due_cell c s) least in
            let port : own.0.port ≡ y.port = ap (λ d. d.port) own.2 in (
              y.cell,
              own.0,
              e ∙ ap (λ d. Some d) (sym own.2),
              own.1,
              omega arith,
              subst (λ d. due_upto d (due_cell c s) ≡ true) (sym own.2) least,
            )

  -- so it is the most urgent
  pub most_urgent_lem : (p : ℕ) → MostUrgent (waiting_by st) p (next_due xs p)
  most_urgent_lem p c h =
      let s = at_stay (waiting_by st) p c h in
      let n = next_is p c s.0 s.1 s.2 in
      let is : next_due xs p ≡ n.0 = ap cell_of n.2 in
      subst (λ x. At (waiting_by st) p x × Before (waiting_by st) x c) (sym is) (
        ap (stays_at p) n.3 ∙ eq-eqb n.1.port p n.4,
        subst (λ o. (due_of o <ℤ due_of (waiting_by st c)) ⊎ ((due_of o ≡ due_of (waiting_by st c)) × (n.0 ≤ c))) (sym n.3)
            (subst (λ o. (n.1.due <ℤ due_of o) ⊎ ((n.1.due ≡ due_of o) × (n.0 ≤ c))) (sym s.1)
            (due_before (due_cell n.0 n.1) (due_cell c s.0) n.5 (n.4 ∙ sym s.2))),
      )

  -- where a port is not empty, some cell waits there, and the first due cell is told
  pub next_told : (p : ℕ) → 0 < count_at (waiting_by st) p
      → (t : Stay) × (first_from due_upto (mark p) xs ≡ Some (due_cell (next_due xs p) t)) × (waiting_by st (next_due xs p) ≡ Some t) × (t.port ≡ p)
  next_told p some =
      let f = passing_find 256 (waits_at (waiting_by st) p) some in
      let s = at_stay (waiting_by st) p f.0 f.2 in
      let n = next_is p f.0 s.0 s.1 s.2 in
      let is : n.0 ≡ next_due xs p = sym (ap cell_of n.2) in
      (n.1, subst (λ x. first_from due_upto (mark p) xs ≡ Some (due_cell x n.1)) is n.2, subst (λ x. waiting_by st x ≡ Some n.1) is n.3, n.4)

-- a due slot of 64 bits is not before the earliest
pub not_too_early : (z : ℤ) → FitsSigned w64 z → int_le earliest z ≡ true
not_too_early (pos n) f = refl
not_too_early (negsuc n) f = le-leb n (2 ^ 63 - 1) (let h = f.sfits in omega arith)

-- the same under other names
pub sound_as : {st st' : List (Option Stay)} {ct ct' : List ℕ} {xs xs' : List DueCell} {room room' : ℕ}
    → st' ≡ st → ct' ≡ ct → xs' ≡ xs → room' ≡ room → Sound st ct xs room → Sound st' ct' xs' room'
sound_as {st} {st'} {ct} {ct'} {xs} {xs'} {room} {room'} a b c d ok =
    subst (λ x. Sound x ct' xs' room') (sym a) (subst (λ x. Sound st x xs' room') (sym b) (subst (λ x. Sound st ct x room') (sym c) (subst (λ x. Sound st ct xs x) (sym d) ok)))

-- no stay at all
pub none_staying : (c : ℕ) → waiting_by (replicate 256 None) c ≡ None
none_staying c = elim (cases_lt c 256) [ inl l ↦ get_or-replicate 256 c None None l | inr l ↦ get_or_past (replicate 256 None) c None l ]

-- an empty queue
pub sound_none : (room : ℕ) (xs : List DueCell) → xs ≡ [] → 256 ≤ room → Sound (replicate 256 None) (replicate 32 0) xs room
sound_none room xs none enough =
    record {
      stays_long = refl;
      counts_long = refl;
      room_for_all = enough;
      rising = subst (Rising due_upto) (sym none) tt;
      staying = subst (AllByRecursion (Stays (replicate 256 None))) (sym none) tt;
      queued = λ c s h. absurd (none_some s (none_staying c) h);
      size = ap length none ∙ sym (passing_zero 256 (λ c. is_some (waiting_by (replicate 256 None) c)) (λ c l. ap is_some (none_staying c)));
      counted = λ p l. get_or-replicate 32 p 0 0 l ∙ sym (empty_count (waiting_by (replicate 256 None)) p none_staying);
    }
