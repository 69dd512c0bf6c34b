-- Legal: where a log has no finding and the own moves are legal, no run ends by one or the other.
use Rattle.std.proofs.Common.{◌≡◌, ℕ, Bool, true, false, List, Option, Some, None, refl, ap, sym, ◌∙◌, length}
use Rattle.std.specs.Prelude.{is_none, not, if◌then◌else◌}
use Rattle.std.proofs.lemmas.Bool.{false≢true}
use Rattle.definitions.specs.declared.world.Move.{Move}
use Rattle.definitions.specs.declared.world.MoveFault.{MoveFault}
use Rattle.definitions.specs.declared.answers.OwnFault.TheVariants.{NotNow, Illegal}
use Rattle.definitions.specs.declared.findings.Finding.{Finding}
use Rattle.definitions.specs.declared.logs.Entry.{Entry}
use Rattle.definitions.specs.World.{Game}
use Rattle.definitions.specs.Moves.{is_legal, move_fault}
use Rattle.definitions.specs.Logs.{chosen}
use Rattle.definitions.specs.Honest.{chosen_track}
use Rattle.definitions.specs.Needs.{choice_fault, may_choose, own_fault}
use Rattle.definitions.specs.Findings.{is_clean}
use Rattle.definition_laws.specs.First.{finding_of_log}
use Rattle.definition_laws.proofs.FirstFinding.{clean_is_none}
use Rattle.pilots.specs.Scripts.{scripted}
use Rattle.peer_core.specs.Views.{PeerState}
use Rattle.seat_files.specs.Unplayed.{MovesLegally}

-- the log has no finding
pub no_finding : (game : Game) (h : List Entry) (f : Finding) → is_clean game h ≡ true → finding_of_log game h ≡ Some f → ⊥
no_finding game h f clean found = false≢true (sym (clean_is_none game h (Some f) (sym found)) ∙ clean)

illegal_is : (o : Option MoveFault) (fault : MoveFault) → own_fault o ≡ Some (Illegal fault) → is_none o ≡ false
illegal_is None fault e = absurd (cc)
illegal_is (Some f) fault e = refl

-- the move that is to be chosen is legal
no_refusal : (game : Game) (me : ℕ) (h : List Entry) (mv : Move) (fault : MoveFault) → may_choose game me h ≡ true → is_legal game me (chosen_track game me h) mv ≡ true → choice_fault game me h mv ≡ Some (Illegal fault) → ⊥
unfolding choice_fault is_legal
no_refusal game me h mv fault may legal refused =
    let by : own_fault (move_fault game me (chosen_track game me h) mv) ≡ Some (Illegal fault) =
    ap (λ (b : Bool). if not b then Some NotNow else own_fault (move_fault game me (chosen_track game me h) mv)) (sym may) ∙ refused in
    false≢true (sym (illegal_is (move_fault game me (chosen_track game me h) mv) fault by) ∙ legal)

-- a peer with this session, player and log, and a pilot that goes by these moves
module _ (game : Game) (me : ℕ) (h : List Entry) (moves : List Move) (q : PeerState) (g : q.game ≡ game) (p : q.me ≡ me) (l : q.entries ≡ h) (legal : MovesLegally game me moves h) where
  -- its move of the turn is not refused
  pub no_own_move : (own : List Move) → own ≡ moves → (turn : ℕ) (fault : MoveFault) (mv : Move) → may_choose q.game q.me q.entries ≡ true → turn ≡ length (chosen q.me q.entries) →
      mv ≡ scripted own (chosen_track q.game q.me q.entries) turn → choice_fault q.game q.me q.entries mv ≡ Some (Illegal fault) → ⊥
  no_own_move own o turn fault mv chooses turn_is by_text refused =
      no_refusal game me h mv fault may (ap (is_legal game me (chosen_track game me h)) planned ∙ legal may) faulty
    where
      may : may_choose game me h ≡ true
      may = ap (λ (x : Game). may_choose x me h) (sym g) ∙ ap (λ (x : ℕ). may_choose q.game x h) (sym p) ∙ ap (may_choose q.game q.me) (sym l) ∙ chooses

      planned : mv ≡ scripted moves (chosen_track game me h) (length (chosen me h))
      planned = by_text
          ∙ ap (scripted own (chosen_track q.game q.me q.entries)) (turn_is ∙ ap (λ (x : List Entry). length (chosen q.me x)) l ∙ ap (λ (x : ℕ). length (chosen x h)) p)
          ∙ ap (λ (x : List Move). scripted x (chosen_track q.game q.me q.entries) (length (chosen me h))) o
          ∙ ap (λ (x : Game). scripted moves (chosen_track x q.me q.entries) (length (chosen me h))) g
          ∙ ap (λ (x : ℕ). scripted moves (chosen_track game x q.entries) (length (chosen me h))) p
          ∙ ap (λ (x : List Entry). scripted moves (chosen_track game me x) (length (chosen me h))) l

      faulty : choice_fault game me h mv ≡ Some (Illegal fault)
      faulty = ap (λ (x : Game). choice_fault x me h mv) (sym g) ∙ ap (λ (x : ℕ). choice_fault q.game x h mv) (sym p) ∙ ap (λ (x : List Entry). choice_fault q.game q.me x mv) (sym l) ∙ refused
