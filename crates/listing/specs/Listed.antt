-- The content of a schedule file as text for a person.
use Rattle.std.specs.Prelude.{ℕ, ◌+◌, List, [], ◌∷◌, ◌++◌, ℤ, codes, decimal}
use Rattle.std.specs.List.{flat_map}
use Rattle.std.specs.Fmt.{signed_decimal}
use Rattle.layout.specs.Contents.{Hop, Scheduled, Content}
use Rattle.layout.specs.declared.kind.Kind.{Kind}
use Rattle.layout.specs.declared.kind.Kind.TheVariants.{Load, Recording, Replay}
use Rattle.layout.specs.declared.kind.Pile.{Pile}
use Rattle.layout.specs.Words.{kind_word, pile_words}

-- what ends a line
abbrev pub feed : List ℕ
feed = 10 ∷ []

-- the lines of the items, of which the first has the number i
abbrev pub lines_from : {X : Type 0} → (ℕ → X → List ℕ) → ℕ → List X → List ℕ
lines_from line i [] = []
lines_from line i (x ∷ xs) = line i x ++ lines_from line (i + 1) xs

-- the line of the kind
abbrev pub kind_line : Kind → List ℕ
kind_line k = codes "kind " ++ (kind_word k ++ feed)

-- the line of the queue discipline
abbrev pub pile_line : Pile → List ℕ
pile_line p = codes "pile " ++ (pile_words p ++ feed)

-- the line of the port with the number n
abbrev pub port_line : ℕ → ℕ → List ℕ
port_line n delay = codes "port " ++ (decimal n ++ (codes " delay " ++ (decimal delay ++ feed)))

-- a slack, which a load does not have
abbrev pub slack_part : Kind → ℤ → List ℕ
slack_part Load slack = []
slack_part Recording slack = codes " slack " ++ signed_decimal slack
slack_part Replay slack = codes " slack " ++ signed_decimal slack

-- a hop: its port, and behind it the slot in which the cell was sent, which a load does not have
abbrev pub hop_part : Kind → ℕ → ℕ → List ℕ
hop_part Load port sent = codes " " ++ decimal port
hop_part Recording port sent = codes " " ++ (decimal port ++ (codes "@" ++ decimal sent))
hop_part Replay port sent = codes " " ++ (decimal port ++ (codes "@" ++ decimal sent))

-- a route: its hops, one after another
abbrev pub route_part : Kind → List Hop → List ℕ
route_part k hs = codes " route" ++ flat_map (λ h. hop_part k h.port h.sent) hs

-- the line of the cell with the number n
abbrev pub cell_line : Kind → ℕ → Scheduled → List ℕ
cell_line k n c =
    codes "cell " ++ (decimal n
    ++ (codes " entry " ++ (decimal c.entry
    ++ (codes " flow " ++ (decimal c.flow
    ++ (slack_part k c.slack ++ (route_part k c.hops ++ feed)))))))

-- the whole text
unfoldable pub listed : Content → List ℕ
listed x =
    kind_line x.kind
    ++ (pile_line x.pile
    ++ (lines_from port_line 0 x.delays
    ++ lines_from (cell_line x.kind) 0 x.cells))
