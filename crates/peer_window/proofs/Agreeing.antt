-- Agreeing: a step over a reveal, by whether it and the commitment of its turn have one digest.
use Rattle.std.proofs.Common.{◌≡◌, ◌+◌, ◌*◌, List, refl, Bool, true, false, sym, ◌∙◌, ap, Option, Some, None}
use Rattle.std.specs.Prelude.{not, if◌then◌else◌}
use Rattle.definitions.specs.declared.world.Track.{Track}
use Rattle.definitions.specs.declared.frames.TurnFrame.{TurnFrame}
use Rattle.definitions.specs.declared.frames.TurnFrame.TheVariants.{Commit, Reveal}
use Rattle.definitions.specs.World.{Game}
use Rattle.definitions.specs.Logs.{digest_eq}
use Rattle.definitions.specs.Held.{digest_of}
use Rattle.move_rules.specs.Verdicts.{verdict}
use Rattle.reveal_check.specs.declared.judging.Verdict.{Verdict}
use Rattle.reveal_check.specs.declared.judging.Verdict.TheVariants as V
use Rattle.reveal_check.specs.Judgements.{by_rules}
use Rattle.peer_window.specs.declared.received.Received.{Received}
use Rattle.definitions.specs.declared.findings.Finding.{Finding}
use Rattle.grid_world.specs.declared.streams.Stream.{Stream}
use Rattle.peer_window.specs.declared.walk.Step.{Step}
use Rattle.peer_window.specs.declared.walk.Step.TheVariants.{Halt}
use Rattle.peer_window.specs.Clashes.{is_of, same_digest}
use Rattle.peer_window.specs.Steps.{AgreeBut, frame_step, judged_step, opened_step, slot_step, turn_step}
use Rattle.peer_window.specs.Slots.{slot}
use Rattle.peer_window.proofs.Pairs.{digest_sym}

judged_if : (c g : Received) (v : Verdict) (b : Bool) → judged_step c g (if b then v else V.BadOpening) ≡ (if b then judged_step c g v else Halt)
judged_if c g v true = refl
judged_if c g v false = refl

halt_if : (b : Bool) → Halt ≡ (if b then Halt else Halt)
halt_if true = refl
halt_if false = refl

-- the step over the frames of a turn's two slots
digests_step : (game : Game) (track : Track) (c g : Received) (b : Bool) (f : TurnFrame) → g.frame ≡ f → same_digest game c g ≡ b → frame_step game track (Some c) g f ≡ (if b then opened_step game track (Some c) g f else Halt)
unfolding digest_of
digests_step game track c g b (Commit p t d) e same = halt_if b
digests_step game track c g b (Reveal p t m n) e same =
    let digest : digest_eq (digest_of game (Reveal p t m n)) (digest_of game c.frame) ≡ b =
    digest_sym (digest_of game (Reveal p t m n)) (digest_of game c.frame) ∙ ap (λ (x : TurnFrame). digest_eq (digest_of game c.frame) (digest_of game x)) (sym e) ∙ same in
    ap (λ (x : Bool). judged_step c g (if x then by_rules (verdict game p track m) else V.BadOpening)) digest ∙ judged_if c g (by_rules (verdict game p track m)) b

alone : (game : Game) (track : Track) (g : Received) (f : TurnFrame) → opened_step game track None g f ≡ frame_step game track None g f
alone game track g (Commit p t d) = refl
alone game track g (Reveal p t m n) = refl

alone_halts : (game : Game) (track : Track) (g : Received) (f : TurnFrame) → Halt ≡ frame_step game track None g f
alone_halts game track g (Commit p t d) = refl
alone_halts game track g (Reveal p t m n) = refl

-- in the turn of the bad opening nothing leads on
pub bad_halts : (game : Game) (ss : List (Option Received)) (bad : Option Finding) (at : Stream) (b : Bool) → AgreeBut game ss bad → b ≡ is_of bad at.resolved → b ≡ true → Halt ≡ turn_step game ss at
bad_halts game ss bad at b agree test holds = go (slot ss (2 * at.resolved)) refl (slot ss (2 * at.resolved + 1)) refl
  where
    go : (x : Option Received) → slot ss (2 * at.resolved) ≡ x → (y : Option Received) → slot ss (2 * at.resolved + 1) ≡ y → Halt ≡ slot_step game at.track x y
    go x e None f = refl
    go None e (Some g) f = alone_halts game at.track g g.frame
    go (Some c) e (Some g) f = sym (digests_step game at.track c g false g.frame refl (agree at.resolved c g e f ∙ ap not (sym test ∙ holds)))

-- in another turn the move decides
pub move_decides : (game : Game) (ss : List (Option Received)) (bad : Option Finding) (at : Stream) (b : Bool) (before : Option Received) (g : Received) (step : Step) → AgreeBut game ss bad → b ≡ is_of bad at.resolved → b ≡ false →
    before ≡ slot ss (2 * at.resolved) → Some g ≡ slot ss (2 * at.resolved + 1) → step ≡ opened_step game at.track before g g.frame → step ≡ turn_step game ss at
move_decides game ss bad at b before g step agree test fails before_is there step_is =
    step_is ∙ ap (λ (x : Option Received). opened_step game at.track x g g.frame) before_is ∙ go (slot ss (2 * at.resolved)) refl ∙ ap (slot_step game at.track (slot ss (2 * at.resolved))) there
  where
    go : (x : Option Received) → slot ss (2 * at.resolved) ≡ x → opened_step game at.track x g g.frame ≡ frame_step game at.track x g g.frame
    go None e = alone game at.track g g.frame
    go (Some c) e = sym (digests_step game at.track c g true g.frame refl (agree at.resolved c g e (sym there) ∙ ap not (sym test ∙ fails)))
