-- A recording as the content of a schedule file.
use Rattle.std.specs.Prelude.{◌≡◌, ℕ, ◌<◌, List, length, get_or, Some, None, Err, Option, Result, ◌==◌, slice_index, slice_index_or}
use Rattle.std.specs.Option.{unwrap_or}
use Rattle.refusal.specs.Tests.{when, or_else}
use Rattle.refusal.specs.declared.Refusal.{Refusal}
use Rattle.refusal.specs.declared.Refusal.TheVariants.{NoCells}
use Rattle.layout.specs.Contents.{Scheduled, Content, no_hop, no_scheduled}
use Rattle.layout.specs.RoundTrip.{Written}
use Rattle.layout.specs.declared.kind.Kind.TheVariants.{Recording as KindRecording}
use Rattle.plan.specs.Cells.{no_cell}
use Rattle.plan.specs.Plans.{delays_of, cells_of}
use Rattle.rules.specs.Loads.{sent_in}
use Rattle.rules.specs.declared.hop.HopRecord.{HopRecord}
use Rattle.run.specs.declared.recording.Recording.{Recording}
use Rattle.outcome.specs.Ends.{ended_test}
use Rattle.outcome.specs.Outcomes.{held_slack, slack_left}

-- x is cell c of the recording: its slack is what the recording leaves it, and each hop has the slot in which it was sent
pub record CellTold (r : Recording) (log : List HopRecord) (c : ℕ) (x : Scheduled) : Type 0 where
  pub entry : x.entry ≡ (get_or (cells_of r.plan) c no_cell).entry
  pub flow : x.flow ≡ (get_or (cells_of r.plan) c no_cell).flow
  pub slack : x.slack ≡ held_slack (slack_left r log c)
  pub long : length x.hops ≡ length (get_or (cells_of r.plan) c no_cell).route
  pub port : (h : ℕ) → h < length (get_or (cells_of r.plan) c no_cell).route → (get_or x.hops h no_hop).port ≡ slice_index (get_or (cells_of r.plan) c no_cell).route h
  pub sent : (h : ℕ) → h < length (get_or (cells_of r.plan) c no_cell).route → (get_or x.hops h no_hop).sent ≡ unwrap_or (sent_in (cells_of r.plan) log c h) 0

-- x is the recording: its ports, and each of its cells
pub record Recorded (r : Recording) (log : List HopRecord) (x : Content) : Type 0 where
  pub kind : x.kind ≡ KindRecording
  pub pile : x.pile ≡ r.pile
  pub delays : x.delays ≡ delays_of r.plan
  pub count : length x.cells ≡ length (cells_of r.plan)
  pub each : (c : ℕ) → c < length (cells_of r.plan) → CellTold r log c (slice_index_or x.cells c no_scheduled)

-- a recording that has not ended, or too short a hop log; a plan without a cell, which no tested seal lets in
abbrev pub file_test : Recording → List HopRecord → Option Refusal
file_test r log = or_else (ended_test r log) (when (length (cells_of r.plan) == 0) NoCells)

-- the first test that fails refuses and leaves the output as it was; else the canonical file of the recording is written
abbrev pub Filed : Option Refusal → Recording → List HopRecord → List ℕ → Result ℕ Refusal → List ℕ → Type 0
Filed (Some e) r log before a after = (a ≡ Err e) × (after ≡ before)
Filed None r log before a after = (x : Content) × Recorded r log x × Written x before a after
