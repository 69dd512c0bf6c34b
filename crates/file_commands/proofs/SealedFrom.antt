-- SealedFrom: what is judged by roots comes of texts, so the frames fit their fields.
use Rattle.std.proofs.Common.{◌≡◌, ℕ, List, [], ◌∷◌, refl, subst}
use Rattle.std.specs.Prelude.{Result, Ok, Err}
use Rattle.commitment.specs.Spelling.{FitsFrame}
use Rattle.definitions.specs.declared.frames.TurnFrame.{TurnFrame}
use Rattle.definitions.specs.Lists.{EachIs}
use Rattle.definitions.specs.World.{Game}
use Rattle.evidence.specs.Text.{FitsText}
use Rattle.grid_world.specs.Reading.{game_at}
use Rattle.grid_world.specs.Sessions.{IsSession}
use Rattle.grid_world.specs.declared.fault.SessionFault.{SessionFault}
use Rattle.grid_world.specs.declared.fault.SessionFault.TheVariants.{At, Memory}
use Rattle.grid_world.proofs.Found.{game_found}
use Rattle.line_io.specs.Files.{Contents, behind_first, content}
use Rattle.run_frame.specs.Faults.{read_by}
use Rattle.run_frame.specs.Opening.{front_in}
use Rattle.run_frame.specs.Sessions.{ended_by, front_of}
use Rattle.run_frame.specs.declared.statuses.Status.{Status}
use Rattle.run_frame.specs.declared.statuses.TextName.TheVariants.{Evidence}
use Rattle.sealed_evidence.specs.declared.sealed.SealedExhibit.{SealedExhibit}
use Rattle.sealed_text.specs.declared.limits.TheConstants.{SEALED_FRONT}
use Rattle.sealed_text.specs.Reading.{sealed_at}
use Rattle.sealed_text.proofs.Found.{sealed_found}
use Rattle.text_fields.specs.declared.fault.TextFault.{TextFault}
use Rattle.file_commands.specs.SealedCases.{SealedCase, after_evidence, after_session, roots_in}
use Rattle.file_commands.specs.SealedCases.{sealed_case_for, with_roots}

-- The session is one that a text may say, and the frames' numbers fit their fields.
pub record IsOfTexts (c : SealedCase) : Type 0 where
  pub session : IsSession c.game
  pub fit : EachIs FitsFrame c.sealed.exhibit.frames

-- the files give this to be judged
abbrev Gives : Result SealedCase Status → SealedCase → Type 0
Gives given c = given ≡ Ok c

same_case : (a b : SealedCase) → Gives (Ok a) b → a ≡ b
same_case a b e = cc

numbers_fit : (fs : List TurnFrame) → EachIs FitsText fs → EachIs FitsFrame fs
numbers_fit [] each = tt
numbers_fit (f ∷ fs) each = (each.0.0, numbers_fit fs each.1)

module _ (c : SealedCase) where
  by_roots : (game : Game) (x : SealedExhibit) (roots : Result (List (List ℕ)) Status) →
      IsSession game → EachIs FitsFrame x.exhibit.frames → Gives (with_roots game x roots) c →
      IsOfTexts c
  by_roots game x (Ok roots) session fit h =
      subst IsOfTexts (same_case _ c h) (record { session = session; fit = fit })
  by_roots game x (Err status) session fit h = cc

  by_evidence : (game : Game) (text : List ℕ) (read : Result SealedExhibit TextFault)
      (contents : Contents) → IsSession game → sealed_at game text ≡ read →
      Gives (after_evidence game (read_by Evidence read) contents) c → IsOfTexts c
  by_evidence game text (Ok x) contents session e h =
      let fit = numbers_fit x.exhibit.frames (sealed_found game text x e).sealed.frames in
      by_roots game x (roots_in game (content contents 0)) session fit h
  by_evidence game text (Err fault) contents session e h = cc

  by_session : (front : List ℕ) (read : Result Game SessionFault) (contents : Contents) →
      game_at front ≡ read → Gives (after_session (ended_by read) contents) c → IsOfTexts c
  by_session front (Ok game) contents e h =
      let text : List ℕ = front_in SEALED_FRONT (content contents 0) in
      let session = (game_found front game e).session in
      by_evidence game text (sealed_at game text) (behind_first contents) session refl h
  by_session front (Err (At line what)) contents e h = cc
  by_session front (Err Memory) contents e h = cc

pub of_texts : (contents : Contents) (c : SealedCase) → Gives (sealed_case_for contents) c →
    IsOfTexts c
of_texts contents c h =
    let front : List ℕ = front_of (content contents 0) in
    by_session c front (game_at front) (behind_first contents) refl h
