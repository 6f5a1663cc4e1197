use Rattle.std.proofs.Common.{◌≡◌, ℕ, List, [], ◌++◌, IfSome, take, Some, None, Option, ap, subst, ◌∙◌}
use Rattle.std.specs.Option.{option_map}
use Rattle.schedule.proofs.input.read_bytes.Goals as goal

-- what was read of a reader whose bytes are known, of which n at most are taken
taken : (o p : Option (List ℕ)) (m n : ℕ) (old new : List ℕ) → o ≡ p → m ≡ n → old ≡ []
    → IfSome (option_map (take m) o) (λ xs. new ≡ old ++ xs) → IfSome p (λ xs. new ≡ take n xs)
taken o p m n old new e f g h = subst (λ q. IfSome q (λ xs. new ≡ take n xs)) e (known o h)
  where
    known : (q : Option (List ℕ)) → IfSome (option_map (take m) q) (λ xs. new ≡ old ++ xs) → IfSome q (λ xs. new ≡ take n xs)
    known None k = k
    known (Some xs) k = k ∙ ap (λ l. l ++ take m xs) g ∙ ap (λ i. take i xs) f

pub returns : goal.returns
returns g c =
    taken _ (g.R.Read.remaining c.args.reader) c.take.result.limit 19017 _ _ (ap g.R.Read.remaining c.take.ensures.inner) c.take.ensures.limit c.new-bytes.ensures.items c.in_ok-read_to_end.ensures.bytes
