-- Fitting: an exhibit that shows a finding of files has a text, but for the count of its frames.
use Rattle.std.proofs.Common.{◌≡◌, ◌≤◌, ℕ, zero, suc, Bool, true, false, List, [], ◌∷◌, Option, None, Some, length, take, ap, sym, subst, refl}
use Rattle.std.specs.Prelude.{filter_map, map, if◌then◌else◌}
use Rattle.std.proofs.lemmas.Bool.{and_parts, false≢true}
use Rattle.definitions.specs.declared.findings.Finding.{Finding}
use Rattle.definitions.specs.declared.frames.TurnFrame.{TurnFrame}
use Rattle.definitions.specs.declared.logs.Entry.{Entry}
use Rattle.definitions.specs.Exhibits.{Shows, shows}
use Rattle.definitions.specs.Findings.{findings}
use Rattle.definitions.specs.Lists.{EachIs}
use Rattle.definitions.specs.Logs.{frame_eq}
use Rattle.definitions.specs.World.{Game}
use Rattle.definition_laws.specs.Members.{Has}
use Rattle.definition_laws.proofs.Members.{each_Has, filter_map_Has}
use Rattle.plain_lemmas.proofs.Each.{each_append}
use Rattle.plain_lemmas.proofs.Lists.{drop_bytes, take_bytes}
use Rattle.plain_lemmas.proofs.Options.{some_when}
use Rattle.grid_world.specs.Sessions.{IsSession}
use Rattle.commitment.proofs.Fitting.{fits_read}
use Rattle.commitment.proofs.Reading.{read_spelled}
use Rattle.session_log.specs.Laws.{AreBytes}
use Rattle.evidence.specs.Showing.{frames_of_finding}
use Rattle.evidence.specs.Text.{FitsText}
use Rattle.evidence.proofs.Few.{shown_read}
use Rattle.evidence.proofs.Illegal.{findings_are_shown}
use Rattle.evidence.proofs.Standing.{findings_stand}
use Rattle.seal_keys.specs.Seals.{seal_len}
use Rattle.sealed_evidence.specs.declared.sealed.SealedExhibit.{SealedExhibit}
use Rattle.sealed_evidence.specs.Judging.{are_sealed, is_sealed, shows_sealed}
use Rattle.sealed_files.specs.SealedFrames.{SealedFrame, behind_sealed, frame_ahead, frame_len, seal_ahead, sealed_ahead, sealed_from, sealed_in, sealed_then, where_sealed}
use Rattle.sealed_files.proofs.Told.{sealed_long}
use Rattle.sealed_text.specs.declared.limits.TheConstants.{MOST_SEALED_FRAMES}
use Rattle.sealed_text.specs.Text.{FitsSeal, IsSealed}
use Rattle.file_commands.specs.AuditLaws.{AllFitText, GotFitsText}
use Rattle.file_commands.proofs.Told.{frames_fit}
use Rattle.accuser.specs.Accused.{all_sealed, as_entry, logs_of, seal_of, sealed_of}
use Rattle.accuser.specs.SealBooks.{seal_among}
use Rattle.accuser.proofs.Sealing.{sealed_shows}

-- ---- what is read of bytes fits a text

-- a sealed frame whose frame a text may say, and whose seal is bytes
abbrev Fits : SealedFrame → Type 0
Fits s = FitsText s.frame × AreBytes s.seal

ahead_is : (game : Game) (roots : List (List ℕ)) (bytes : List ℕ) (f : TurnFrame) → sealed_ahead game roots bytes ≡ Some f → frame_ahead bytes ≡ Some f
unfolding sealed_ahead
ahead_is game roots bytes f e = go (frame_ahead bytes) e
  where
    go : (o : Option TurnFrame) → where_sealed game roots bytes o ≡ Some f → o ≡ Some f
    go None e = absurd (let no : None ≡ Some f = e in cc)
    go (Some g) e = ap (λ (x : TurnFrame). let o : Option TurnFrame = Some x in o) (some_when (is_sealed game roots g (seal_ahead game bytes)) g f e).1

frame_fits : (bytes : List ℕ) (f : TurnFrame) → AreBytes bytes → frame_ahead bytes ≡ Some f → FitsText f
unfolding frame_ahead
frame_fits bytes f are e =
    let spelling : List ℕ = take (frame_len bytes) bytes in
    let front : AreBytes spelling = take_bytes (frame_len bytes) bytes are in
    (fits_read spelling f front e, subst AreBytes (sym (read_spelled spelling f front e)) front)

all_fit : (game : Game) (roots : List (List ℕ)) (n : ℕ) (bytes : List ℕ) → AreBytes bytes → EachIs Fits (sealed_from game roots n bytes)
unfolding sealed_from
all_fit game roots zero bytes are = tt
all_fit game roots (suc n) bytes are = go (sealed_ahead game roots bytes) refl (all_fit game roots n (behind_sealed game bytes) (drop_bytes _ bytes are))
  where
    go : (o : Option TurnFrame) → sealed_ahead game roots bytes ≡ o → EachIs Fits (sealed_from game roots n (behind_sealed game bytes)) →
        EachIs Fits (sealed_then game bytes o (sealed_from game roots n (behind_sealed game bytes)))
    go None e all = tt
    go (Some f) e all = ((frame_fits bytes f are (ahead_is game roots bytes f e), take_bytes (seal_len game) _ (drop_bytes (frame_len bytes) bytes are)), all)

-- of all files
files_fit : (game : Game) (roots files : List (List ℕ)) → EachIs AreBytes files → EachIs Fits (all_sealed game roots files)
files_fit game roots [] are = tt
files_fit game roots (bytes ∷ files) are = each_append Fits (sealed_in game roots bytes) (all_sealed game roots files) (all_fit game roots _ bytes are.0) (files_fit game roots files are.1)

entries_fit : (ss : List SealedFrame) → EachIs Fits ss → EachIs GotFitsText (map as_entry ss)
entries_fit [] all = tt
entries_fit (s ∷ ss) all = (all.0.0, entries_fit ss all.1)

logs_fit : (game : Game) (roots files : List (List ℕ)) → EachIs AreBytes files → AllFitText (logs_of game roots files)
logs_fit game roots [] are = tt
logs_fit game roots (bytes ∷ files) are = (entries_fit (sealed_in game roots bytes) (all_fit game roots _ bytes are.0), logs_fit game roots files are.1)

-- ---- the seals of an exhibit

among_bytes : (ss : List SealedFrame) (f : TurnFrame) (s : List ℕ) → EachIs Fits ss → seal_among ss f ≡ Some s → AreBytes s
among_bytes [] f s all e = absurd (let no : None ≡ Some s = e in cc)
among_bytes (x ∷ xs) f s all e = go (frame_eq x.frame f) e (λ there. among_bytes xs f s all.1 there)
  where
    go : (c : Bool) → (if c then Some x.seal else seal_among xs f) ≡ Some s → (seal_among xs f ≡ Some s → AreBytes s) → AreBytes s
    go true e ih = subst AreBytes (let one : x.seal ≡ s = cc in one) all.0.1
    go false e ih = ih e

-- there are as many as frames, each as long as those of the session
pub seals_count : (game : Game) (roots : List (List ℕ)) (fs : List TurnFrame) (ss : List (List ℕ)) → are_sealed game roots fs ss ≡ true → length ss ≡ length fs
seals_count game roots [] [] e = refl
seals_count game roots [] (s ∷ ss) e = absurd (false≢true e)
seals_count game roots (f ∷ fs) [] e = absurd (false≢true e)
seals_count game roots (f ∷ fs) (s ∷ ss) e = ap suc (seals_count game roots fs ss (and_parts (is_sealed game roots f s) (are_sealed game roots fs ss) e).1)

seals_fit : (game : Game) (roots : List (List ℕ)) (fs : List TurnFrame) (ss : List (List ℕ)) → are_sealed game roots fs ss ≡ true → EachIs AreBytes ss → EachIs (FitsSeal (seal_len game)) ss
seals_fit game roots fs [] e all = tt
seals_fit game roots [] (s ∷ ss) e all = absurd (false≢true e)
seals_fit game roots (f ∷ fs) (s ∷ ss) e all =
    let p = and_parts (is_sealed game roots f s) (are_sealed game roots fs ss) e in
    ((sealed_long game roots f s p.0, all.0), seals_fit game roots fs ss p.1 all.1)

-- ---- the exhibit

-- the frames show what the exhibit says, and are all sealed
pub judged_parts : (game : Game) (roots : List (List ℕ)) (x : SealedExhibit) → shows_sealed game roots x ≡ true →
    Shows game x.exhibit.player x.exhibit.turn x.exhibit.kind x.exhibit.frames × (are_sealed game roots x.exhibit.frames x.seals ≡ true)
judged_parts game roots x e =
    and_parts (shows game x.exhibit.player x.exhibit.turn x.exhibit.kind x.exhibit.frames) (are_sealed game roots x.exhibit.frames x.seals) e

module _ (game : Game) (roots files : List (List ℕ)) (f : Finding) (there : Has (findings game (logs_of game roots files)) f) where
  -- whoever has the session and the roots judges that it shows the finding
  pub finding_judged : shows_sealed game roots (sealed_of game roots files f) ≡ true
  finding_judged = sealed_shows findings_are_shown findings_stand game roots files f there

  -- it has a text, where it has no more frames than a text may say
  pub finding_fits : IsSession game → EachIs AreBytes files → length (frames_of_finding game (logs_of game roots files) f) ≤ MOST_SEALED_FRAMES → IsSealed game (sealed_of game roots files f)
  finding_fits session are few =
      let logs : List (List Entry) = logs_of game roots files in
      let fs : List TurnFrame = frames_of_finding game logs f in
      let judged = judged_parts game roots (sealed_of game roots files f) finding_judged in
      let is = (shown_read game (record { player = f.player; turn = f.turn; kind = f.kind; frames = fs }) session judged.0 (frames_fit game logs f (logs_fit game roots files are) there)).0 in
      let all : EachIs Fits (all_sealed game roots files) = files_fit game roots files are in
      let ss : List (List ℕ) = filter_map (seal_of game roots files) fs in
      let bytes : EachIs AreBytes ss = each_Has AreBytes ss (λ s m. let of = filter_map_Has (seal_of game roots files) fs s m in among_bytes (all_sealed game roots files) of.0 s all of.2) in
      record {
        player = is.player;
        turn = is.turn;
        some = is.some;
        few = few;
        frames = is.frames;
        count = seals_count game roots fs ss judged.1;
        seals = seals_fit game roots fs ss judged.1 bytes;
      }
