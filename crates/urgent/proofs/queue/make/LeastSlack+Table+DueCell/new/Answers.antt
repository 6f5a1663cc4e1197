use Rattle.std.proofs.Common.{length, refl, ap}
use Rattle.urgent.specs.Sound.{sound_none, sound_as, none_staying}
use Rattle.urgent.proofs.queue.make.LeastSlack+Table+DueCell.new.Goals as goal

pub returns-clause-sound : goal.returns-clause-sound
returns-clause-sound c enough = sound_as refl refl refl (ap length c.new.ensures.places) (sound_none _ _ c.new.ensures.elements enough)

pub returns-clause-empty : goal.returns-clause-empty
returns-clause-empty c = none_staying
