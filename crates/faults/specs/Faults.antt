-- The cause, the place and the layer of each fault.
use Rattle.std.specs.Prelude.{◌≡◌, ℕ, ◌⊎◌, List, ◌∷◌, ◌++◌, Some, None, codes, decimal, Option}
use Rattle.text.specs.Faults.{LineCase, line_case, fault_place}
use Rattle.text.specs.declared.fault.LineFault.{LineFault}
use Rattle.faults.specs.declared.BodyFault.{BodyFault}
use Rattle.faults.specs.declared.BodyFault.TheVariants.{Notes, Events}
use Rattle.faults.specs.declared.FileFault.{FileFault}
use Rattle.faults.specs.declared.FileFault.TheVariants.{Long, Contents, Body, Surplus}
use Rattle.faults.specs.declared.Layer.{Layer}
use Rattle.faults.specs.declared.Layer.TheVariants as layers

-- A fault as the format tells it: its number, the place, the layer, and the line's fault where a line is wrong or absent.
pub record Case : Type 0 where
  pub cause : ℕ
  pub place : ℕ
  pub layer : Layer
  pub line : Option LineCase

abbrev line_of : BodyFault → LineFault
line_of (Notes fault) = fault
line_of (Events fault) = fault

abbrev body_layer : BodyFault → Layer
body_layer (Notes fault) = layers.Notes
body_layer (Events fault) = layers.Events

-- 11 too long, 12 a contents line, 13 a line of the notes or the events, 14 bytes after the last event
abbrev pub case_of : FileFault → Case
case_of Long = record { cause = 11; place = 65536; layer = layers.File; line = None }
case_of (Contents fault) = record { cause = 12; place = fault_place fault; layer = layers.Contents; line = Some (line_case fault) }
case_of (Body fault) = record { cause = 13; place = fault_place (line_of fault); layer = body_layer fault; line = Some (line_case (line_of fault)) }
case_of (Surplus place) = record { cause = 14; place = place; layer = layers.File; line = None }

abbrev pub cause_of : FileFault → ℕ
cause_of f = (case_of f).cause

abbrev pub place_of : FileFault → ℕ
place_of f = (case_of f).place

abbrev pub layer_of : FileFault → Layer
layer_of f = (case_of f).layer

-- Which cause, place and layer go together: 11 is the file's, at place 65536; 12 the contents'; 13 the notes' or the
-- events'; 14 the file's again.
abbrev pub Together : ℕ → ℕ → Layer → Type 0
Together cause place layers.File = ((cause ≡ 11) × (place ≡ 65536)) ⊎ (cause ≡ 14)
Together cause place layers.Contents = cause ≡ 12
Together cause place layers.Notes = cause ≡ 13
Together cause place layers.Events = cause ≡ 13

abbrev pub layer_word : Layer → List ℕ
layer_word layers.File = codes "file"
layer_word layers.Contents = codes "contents"
layer_word layers.Notes = codes "notes"
layer_word layers.Events = codes "events"

-- what a fault is printed as
abbrev pub fault_text : FileFault → List ℕ
fault_text f = decimal (cause_of f) ++ (32 ∷ (decimal (place_of f) ++ (32 ∷ layer_word (layer_of f))))
