-- What every line keeps, and what its changes leave.
use Rattle.std.proofs.Common.{◌≡◌, ℕ, ◌+◌, ◌-◌, ◌<◌, ◌≤◌, true, List, [], ◌∷◌, ◌++◌, length, get_or, set, replicate, is_some, Some, None, Option, MatchOption, sym, refl, ap, ◌∙◌, inl, inr, arith}
use Rattle.std.specs.List.{remove}
use Rattle.std.proofs.lemmas.List.{length_push, get_or-replicate, get_or-set_same, get_or-set_other}
use Rattle.std.proofs.lemmas.Bool.{cases_eq, false≢true}
use Rattle.queues.specs.Entries.{stay_of, no_entry, waiting_in, at_port, without, proper, Stands}
use Rattle.queues.specs.declared.entry.Entry.{Entry}
use Rattle.discipline.specs.Meaning.{count_at}
use Rattle.queues.specs.Queued.{at_port_counts, limits_in, waits_at_place, few_entries, proper_with, proper_without, at_port_few, at_port_append, at_port_one, at_port_other, at_port_removed, removed_is}

-- a line without entries
pub none_proper : (q : List Entry) → q ≡ [] → proper q ≡ true
none_proper q h = ap proper h

pub none_counted : (q : List Entry) → q ≡ [] → (p : ℕ) → p < 32 → get_or (replicate 32 0) p 0 ≡ at_port q p
none_counted q h p l = get_or-replicate 32 p 0 0 l ∙ sym (ap (λ r. at_port r p) h)

-- the cell of an entry waits with that entry's stay
pub stands_with : (q : List Entry) (c at : ℕ) → proper q ≡ true → Stands q c at → waiting_in q c ≡ Some (stay_of (get_or q at no_entry))
stands_with q c at h s = ap (waiting_in q) (sym s.1) ∙ waits_at_place q at h s.0

-- a cell whose place is found waits
pub found_waits : (q : List Entry) (c : ℕ) → proper q ≡ true → (o : Option ℕ) → MatchOption o (waiting_in q c ≡ None) (Stands q c) → is_some o ≡ true → is_some (waiting_in q c) ≡ true
found_waits q c h None s t = absurd (false≢true t)
found_waits q c h (Some at) s t = ap is_some (stands_with q c at h s)

-- the entries of a line are q, and its counts are ct
module _ (q : List Entry) (ct : List ℕ) (each : proper q ≡ true) (counted : (p : ℕ) → p < 32 → get_or ct p 0 ≡ at_port q p) where
  -- the counts are those of the cells that wait
  pub count_is : (p : ℕ) → p ≤ 31 → count_at (waiting_in q) p ≡ get_or ct p 0
  count_is p h = at_port_counts q p each ∙ sym (counted p (omega arith))

  pub count_few : (p : ℕ) → p < 32 → get_or ct p 0 ≤ 256
  count_few p i = let a = counted p i in let b = at_port_few q p in let c = few_entries q each in omega arith

  -- an entry is put at the end
  module _ (e : Entry) (cell : e.cell ≤ 255) (port : e.port ≤ 31) (new : waiting_in q e.cell ≡ None) where
    pub put_proper : proper (q ++ e ∷ []) ≡ true
    put_proper = proper_with q e each (omega arith) (omega arith) new

    -- there is room for it
    pub room : length q < 256
    room =
        let a = few_entries (q ++ e ∷ []) put_proper in
        let b = length_push q e in
        omega arith

    pub put_counted : length ct ≡ 32 → (p : ℕ) → p < 32 → get_or (set ct e.port (get_or ct e.port 0 + 1)) p 0 ≡ at_port (q ++ e ∷ []) p
    put_counted wide p i =
        let a : at_port (q ++ e ∷ []) p ≡ at_port q p + at_port (e ∷ []) p = at_port_append q (e ∷ []) p in
        let h = counted p i in
        elim (cases_eq e.port p) [
          | inl x ↦
              (let b = at_port_one e p x in
              let c : get_or (set ct e.port (get_or ct e.port 0 + 1)) p 0 ≡ get_or ct e.port 0 + 1 =
              ap (λ k. get_or (set ct e.port (get_or ct e.port 0 + 1)) k 0) (sym x) ∙ get_or-set_same ct e.port (get_or ct e.port 0 + 1) 0 (omega arith) in
              let d : get_or ct e.port 0 ≡ get_or ct p 0 = ap (λ k. get_or ct k 0) x in
              omega arith)
          | inr x ↦
              (let b = at_port_other e p x in
              let c = get_or-set_other ct e.port p (get_or ct e.port 0 + 1) 0 (λ y. x (sym y)) in
              omega arith)
        ]

  -- the entry e at a place is taken out
  module _ (at : ℕ) (inside : at < length q) (e : Entry) (is : e ≡ get_or q at no_entry) where
    pub gone_port : e.port < 32
    gone_port =
        let b = (limits_in q each (get_or q at no_entry).cell (stay_of (get_or q at no_entry)) (waits_at_place q at each inside)).1 in
        let s = ap (λ x. x.port) is in
        omega arith

    gone_count : (p : ℕ) → at_port q p ≡ at_port (remove q at) p + at_port (e ∷ []) p
    gone_count p = at_port_removed q at p inside ∙ ap (λ x. at_port (remove q at) p + at_port (x ∷ []) p) (sym is)

    -- it was counted
    pub some_there : 1 ≤ get_or ct e.port 0
    some_there =
        let a = counted e.port gone_port in
        let b = gone_count e.port in
        let c = at_port_one e e.port refl in
        omega arith

    pub gone_is : remove q at ≡ without q e.cell
    gone_is = removed_is q at each inside ∙ ap (λ x. without q x.cell) (sym is)

    pub gone_proper : proper (remove q at) ≡ true
    gone_proper = ap proper gone_is ∙ proper_without q e.cell each

    pub gone_counted : length ct ≡ 32 → (p : ℕ) → p < 32 → get_or (set ct e.port (get_or ct e.port 0 - 1)) p 0 ≡ at_port (remove q at) p
    gone_counted wide p i =
        let b = gone_count p in
        let h = counted p i in
        let u = gone_port in
        elim (cases_eq e.port p) [
          | inl x ↦
              (let f = at_port_one e p x in
              let c : get_or (set ct e.port (get_or ct e.port 0 - 1)) p 0 ≡ get_or ct e.port 0 - 1 =
              ap (λ k. get_or (set ct e.port (get_or ct e.port 0 - 1)) k 0) (sym x) ∙ get_or-set_same ct e.port (get_or ct e.port 0 - 1) 0 (omega arith) in
              let d : get_or ct e.port 0 ≡ get_or ct p 0 = ap (λ k. get_or ct k 0) x in
              omega arith)
          | inr x ↦
              (let f = at_port_other e p x in
              let c = get_or-set_other ct e.port p (get_or ct e.port 0 - 1) 0 (λ y. x (sym y)) in
              omega arith)
        ]
