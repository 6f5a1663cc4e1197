use Rattle.std.proofs.Common.{◌≡◌, ℕ, ◌+◌, ◌<◌, List, [], ◌∷◌, ◌++◌, inl, inr, map, length, get_or, take, drop, ℤ, pos, sym, ap, ◌∙◌, subst, arith, w32, SFits, rules}
use Rattle.std.proofs.lemmas.List.{length-map, length-drop, drop-drop, length_push, get_or-map, get_or-take, get_or-drop, map_push, get_or_push, get_or_append_left}
use Rattle.std.proofs.lemmas.Bool.{cases_eq}
use Rattle.std.proofs.lemmas.Int.{to_z-of_z}
use Rattle.std.proofs.lemmas.Slice.Zip.{zip_turn}
use Rattle.plan.specs.Cells.{Planned, ports_of, planned, no_cell, hops_in}
use Rattle.plan.specs.declared.cell.Cell.{Cell}
use Rattle.layout.specs.Contents.{Scheduled, no_scheduled}
use Rattle.sheet.specs.Rows.{scheduled}
use Rattle.sheet.specs.Sheets.{Told}
use Rattle.sheet.specs.declared.row.Row.{Row}
use Rattle.plan.proofs.Hops.{hops_more, hops_part}
use Rattle.sheet.proofs.sheet.build.rows_of.Goals as goal

module _ (cells : List Cell) (k : ℕ) (cell : Cell) (l : k < length cells) (is : cell ≡ get_or cells k cell) where
  -- the cell with the number k
  pub here : get_or (map planned cells) k no_cell ≡ planned cell
  here = get_or-map planned cells k cell no_cell l ∙ ap planned (sym is)

  -- its hops stand behind those of the cells before it
  pub more : hops_in (take (k + 1) (map planned cells)) ≡ hops_in (take k (map planned cells)) + length (ports_of cell.route)
  more =
      let n = length-map cells planned in
      hops_more (map planned cells) k (omega arith) ∙ ap (λ c. hops_in (take k (map planned cells)) + length c.route) here

-- a cell told by a part of the slots is told by all of them
told_in : (c : Planned) (x : ℤ) (ss part : List ℕ) (first : ℕ) (y : Scheduled) → part ≡ take (length c.route) (drop first ss) → Told c x part 0 y → Told c x ss first y
told_in c x ss part first y e t =
    record {
      entry = t.entry;
      flow = t.flow;
      slack = t.slack;
      long = t.long;
      port = t.port;
      sent = λ h l. t.sent h l ∙ ap (λ k. get_or part k 0) (omega arith) ∙ ap (λ p. get_or p h 0) e ∙ get_or-take (length c.route) (drop first ss) h 0 l ∙ get_or-drop first ss h 0;
    }

-- one row more
step : (cells : List Cell) (xs : List ℤ) (ss : List ℕ) (rows : List Row) (rest : List ℕ) (k : ℕ) (cell : Cell) (slack slack' : ℤ) (n : ℕ) (front back : List ℕ) (row : Row) (rows' : List Row) (k' : ℕ)
    → k' ≡ k + 1 → k < length cells → cell ≡ get_or cells k cell → slack ≡ get_or xs k (pos 0) → length rows ≡ k → rest ≡ drop (hops_in (take k (map planned cells))) ss
    → ((j : ℕ) → j < k → Told (get_or (map planned cells) j no_cell) (get_or xs j (pos 0)) ss (hops_in (take j (map planned cells))) (get_or (map scheduled rows) j no_scheduled))
    → n ≡ length (ports_of cell.route) → front ≡ take n rest → back ≡ drop n rest → slack' ≡ slack → Told (planned cell) slack' front 0 (scheduled row) → rows' ≡ rows ++ row ∷ []
    → (length rows' ≡ k') × (back ≡ drop (hops_in (take k' (map planned cells))) ss)
    × ((j : ℕ) → j < k' → Told (get_or (map planned cells) j no_cell) (get_or xs j (pos 0)) ss (hops_in (take j (map planned cells))) (get_or (map scheduled rows') j no_scheduled))
step cells xs ss rows rest k cell slack slack' n front back row rows' k' next l is slack-is long left told ports f b same new pushed =
    let behind = more cells k cell l is in
    let first = hops_in (take k (map planned cells)) in
    let on : hops_in (take k' (map planned cells)) ≡ first + n = omega (arith, ap (λ m. hops_in (take m (map planned cells))) next, behind, ports) in
    let put : map scheduled rows' ≡ map scheduled rows ++ scheduled row ∷ [] = ap (map scheduled) pushed ∙ map_push scheduled rows row in
    let many : length (map scheduled rows) ≡ k = length-map rows scheduled ∙ long in (
      omega (arith, ap length pushed, length_push rows row, long, next),
      b ∙ ap (drop n) left ∙ drop-drop n first ss ∙ ap (λ m. drop m ss) (sym on),
      λ j m. elim (cases_eq j k) [
        | inl e ↦ subst (λ i. Told (get_or (map planned cells) i no_cell) (get_or xs i (pos 0)) ss (hops_in (take i (map planned cells))) (get_or (map scheduled rows') i no_scheduled)) (sym e)
            (subst (λ y. Told (get_or (map planned cells) k no_cell) (get_or xs k (pos 0)) ss first y) (sym (ap (λ ys. get_or ys k no_scheduled) put ∙ get_or_push (map scheduled rows) (scheduled row) no_scheduled k many))
            (subst (λ c. Told c (get_or xs k (pos 0)) ss first (scheduled row)) (sym (here cells k cell l is))
            (subst (λ x. Told (planned cell) x ss first (scheduled row)) (same ∙ slack-is)
            (told_in (planned cell) slack' ss front first (scheduled row) (f ∙ ap (λ m. take m rest) ports ∙ ap (take (length (ports_of cell.route))) left) new))))
        | inr e ↦ (let in' : j < k = omega arith in
            let before : j < length (map scheduled rows) = omega arith in
            subst (Told _ _ _ _) (sym (ap (λ ys. get_or ys j no_scheduled) put ∙ get_or_append_left (map scheduled rows) (scheduled row ∷ []) no_scheduled j before)) (told j in'))
      ],
    )

turn : (c : goal.After-ports) → (length c.loop-cell.yielded < length c.args.cells.now) × (length c.loop-cell.yielded < length c.args.slacks.now)
    × ((d : Cell) → c.in-Some.cell.now ≡ get_or c.args.cells.now (length c.loop-cell.yielded) d) × ((d : ℤ) → c.in-Some.slack.now ≡ get_or c.args.slacks.now (length c.loop-cell.yielded) d)
turn c = zip_turn c.args.cells.now c.args.slacks.now c.loop-cell.yielded c.into_iter-cell-iterator.result c.loop-cell.cell-iterator c.next.new.self _ (cc) (cc) c.loop-cell.yielded_by (c.in-Some.cell, c.in-Some.slack) c.in-Some.is c.next.ensures.steps

turn' : (c : goal.After-push) → (length c.loop-cell.yielded < length c.args.cells.now) × (length c.loop-cell.yielded < length c.args.slacks.now)
    × ((d : Cell) → c.in-Some.cell.now ≡ get_or c.args.cells.now (length c.loop-cell.yielded) d) × ((d : ℤ) → c.in-Some.slack.now ≡ get_or c.args.slacks.now (length c.loop-cell.yielded) d)
turn' c = zip_turn c.args.cells.now c.args.slacks.now c.loop-cell.yielded c.into_iter-cell-iterator.result c.loop-cell.cell-iterator c.next.new.self _ (cc) (cc) c.loop-cell.yielded_by (c.in-Some.cell, c.in-Some.slack) c.in-Some.is c.next.ensures.steps

pub split_at-requires : goal.split_at-requires
split_at-requires c =
    let cs = c.args.cells.now in
    let t = turn c in
    let k = length c.loop-cell.yielded in
    let step = more cs k c.in-Some.cell.now t.0 (t.2 c.in-Some.cell.now) in
    let part = hops_part (map planned cs) (k + 1) in
    let all = c.requires.cells_in_bounds in
    let left = ap length c.loop-cell.invariant.1 ∙ length-drop (hops_in (take k (map planned cs))) c.args.slots.now in
    let long = ap length (c.ports.ensures ∙ ap ports_of c.route.ensures) in
    omega arith

pub loop-cell-preserved : goal.loop-cell-preserved
loop-cell-preserved c =
    let t = turn' c in
    let one = length_push c.loop-cell.yielded (c.in-Some.cell, c.in-Some.slack) in
    let route = c.ports.ensures ∙ ap ports_of c.route.ensures in
    let fits : SFits w32 c.in-Some.slack.now = search rules in
    step c.args.cells.now c.args.slacks.now c.args.slots.now c.loop-cell.rows.items c.loop-cell.rest.now (length c.loop-cell.yielded)
    c.in-Some.cell.now c.in-Some.slack.now _ _ _ _ _ _ _ one t.0 (t.2 _) (t.3 _) c.loop-cell.invariant.0 c.loop-cell.invariant.1 c.loop-cell.invariant.2
    (ap length route) c.split_at.ensures.front c.split_at.ensures.back (to_z-of_z w32 c.in-Some.slack.now fits) c.new.ensures c.push.ensures.items
