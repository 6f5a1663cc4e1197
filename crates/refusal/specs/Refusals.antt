-- What a refusal tells: the number, the layer and the place of every case.
use Rattle.std.specs.Prelude.{ℕ, List, ◌++◌, codes, decimal}
use Rattle.refusal.specs.declared.Layer.{Layer}
use Rattle.refusal.specs.declared.Layer.TheVariants as layers
use Rattle.refusal.specs.declared.Refusal.{Refusal}
use Rattle.refusal.specs.declared.Refusal.TheVariants.{NoMemory, WrongLength, BadField, BadCount, BadDelay, BadIndex, BadChain, BadRouteLength, UnknownPort, PortTwice, BadFlow, PlanFull, NoCells, RunEnded, RunNotEnded, UnknownItem, OutOfRange, AlreadyWaits, NoneWaits, NotWaiting, BadSetting, NoPlace, ShortOutput, HoldsCells}

abbrev pub number : Refusal → ℕ
number NoMemory = 0
number (WrongLength p) = 1
number (BadField p) = 2
number (BadCount p) = 3
number (BadDelay p) = 4
number (BadIndex p) = 5
number (BadChain p) = 6
number (BadRouteLength p) = 7
number (UnknownPort p) = 8
number (PortTwice p) = 9
number (BadFlow p) = 10
number (PlanFull p) = 11
number NoCells = 12
number RunEnded = 13
number RunNotEnded = 14
number UnknownItem = 15
number OutOfRange = 16
number AlreadyWaits = 17
number NoneWaits = 18
number NotWaiting = 19
number BadSetting = 20
number NoPlace = 21
number ShortOutput = 22
number HoldsCells = 23

abbrev pub layer : Refusal → Layer
layer NoMemory = layers.Memory
layer (WrongLength p) = layers.File
layer (BadField p) = layers.File
layer (BadCount p) = layers.File
layer (BadDelay p) = layers.Plan
layer (BadIndex p) = layers.Chain
layer (BadChain p) = layers.Chain
layer (BadRouteLength p) = layers.Plan
layer (UnknownPort p) = layers.Plan
layer (PortTwice p) = layers.Plan
layer (BadFlow p) = layers.Plan
layer (PlanFull p) = layers.Plan
layer NoCells = layers.Plan
layer RunEnded = layers.Run
layer RunNotEnded = layers.Run
layer UnknownItem = layers.Run
layer OutOfRange = layers.Discipline
layer AlreadyWaits = layers.Discipline
layer NoneWaits = layers.Discipline
layer NotWaiting = layers.Discipline
layer BadSetting = layers.Discipline
layer NoPlace = layers.Table
layer ShortOutput = layers.Output
layer HoldsCells = layers.Run

-- a length, an offset, an index, a number or a count, as the case says; 0 where the case has no place
abbrev pub place : Refusal → ℕ
place NoMemory = 0
place (WrongLength p) = p
place (BadField p) = p
place (BadCount p) = p
place (BadDelay p) = p
place (BadIndex p) = p
place (BadChain p) = p
place (BadRouteLength p) = p
place (UnknownPort p) = p
place (PortTwice p) = p
place (BadFlow p) = p
place (PlanFull p) = p
place NoCells = 0
place RunEnded = 0
place RunNotEnded = 0
place UnknownItem = 0
place OutOfRange = 0
place AlreadyWaits = 0
place NoneWaits = 0
place NotWaiting = 0
place BadSetting = 0
place NoPlace = 0
place ShortOutput = 0
place HoldsCells = 0

-- the line that tells it
abbrev pub refused_line : Refusal → List ℕ
refused_line r = codes "refused " ++ (decimal (number r) ++ (codes " at " ++ decimal (place r)))
