-- What the fields that a source hands out say of its content.
use Rattle.std.specs.Prelude.{◌≡◌, length}
use Rattle.layout.specs.declared.fields.CellFields.{CellFields}
use Rattle.layout.specs.declared.fields.HopFields.{HopFields}
use Rattle.layout.specs.Contents.{Hop, Scheduled}

pub record TellsCell (f : CellFields) (x : Scheduled) : Type 0 where
  pub entry : f.entry ≡ x.entry
  pub flow : f.flow ≡ x.flow
  pub slack : f.slack ≡ x.slack
  pub hops : f.hops ≡ length x.hops

pub record TellsHop (f : HopFields) (h : Hop) : Type 0 where
  pub port : f.port ≡ h.port
  pub sent : f.sent ≡ h.sent
