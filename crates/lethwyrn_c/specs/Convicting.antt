-- Convicting: what the evidence of a peer's finding shows.
use Rattle.std.specs.Prelude.{◌≡◌, ℕ, List, [], ◌∷◌, Some}
use Rattle.definitions.specs.declared.frames.TurnFrame.{TurnFrame}
use Rattle.definitions.specs.declared.findings.Kind.TheVariants.{Illegal}
use Rattle.definitions.specs.declared.findings.Finding.{Finding}
use Rattle.definitions.specs.Exhibits.{Shows}
use Rattle.definition_laws.specs.First.{finding_of_log}
use Rattle.evidence.specs.Text.{exhibit_text}
use Rattle.lethwyrn_c.specs.Runs.{Run}
use Rattle.lethwyrn_c.specs.Showing.{evidence_text, exhibit_of}
use Rattle.lethwyrn_c.specs.Standings.{Standing}

-- the evidence is the text of two frames that show the finding
pub record IsConvicting (s : Standing) (f : Finding) : Type 0 where
  pub first : TurnFrame
  pub second : TurnFrame
  pub text_is : evidence_text s ≡ Some (exhibit_text (exhibit_of f first second))
  pub shows : Shows s.peer.game f.player f.turn f.kind (first ∷ second ∷ [])

-- in every run it is there for each first finding of the log but an illegal move
abbrev pub EvidenceConvicts : Type 0
EvidenceConvicts = (s : Standing) (taken : List ℕ) (named : ℕ) (f : Finding) → Run s taken named → finding_of_log s.peer.game s.peer.entries ≡ Some f → (f.kind ≡ Illegal → ⊥) → IsConvicting s f
