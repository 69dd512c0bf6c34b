-- Filed: what is sealed is a file of sealed frames without a fault.
use Rattle.std.proofs.Common.{◌≡◌, ◌+◌, ◌-◌, ℕ, zero, suc, false, true, List, [], ◌∷◌, ◌++◌}
use Rattle.std.proofs.Common.{None, length, drop, refl, sym, ap, ◌∙◌, arith, nat_lt}
use Rattle.std.specs.Prelude.{IsTrue, is_some, slice_index}
use Rattle.std.proofs.lemmas.Bool.{and_from, le-ltb, lt-ltb}
use Rattle.std.proofs.lemmas.List.{append_assoc, drop_at, length-append}
use Rattle.definitions.specs.declared.frames.TurnFrame.{TurnFrame}
use Rattle.definitions.specs.declared.frames.TurnFrame.TheVariants.{Commit, Reveal}
use Rattle.definitions.specs.declared.limits.TheConstants.{LONGEST_LOG}
use Rattle.definitions.specs.Lists.{EachIs, is_empty, item_or}
use Rattle.definitions.specs.Logs.{player_of}
use Rattle.definitions.specs.World.{Game}
use Rattle.definition_laws.proofs.Members.{Has_each, Has_slice_get, each_Has}
use Rattle.commitment.specs.Spelling.{FitsFrame, frame_bytes}
use Rattle.commitment.proofs.Reading.{length-frame}
use Rattle.seal_keys.specs.Seals.{is_valid, seal_len}
use Rattle.seal_blame.specs.Made.{AreMade}
use Rattle.sealed_evidence.specs.Judging.{is_sealed}
use Rattle.sealed_files.specs.SealedFrames.{bad_from, first_bad, frame_len}
use Rattle.sealed_files.proofs.Told.{bad_done, bad_empty, bad_on, found, sealed_long}
use Rattle.key_commands.specs.Opened.{Sealed}
use Rattle.key_commands.specs.Seal.{HasRoot, HasValidSeal, IsFileOfSealed, its_seal, sealed_frames}

-- ---- sealed frame after sealed frame

third_front : (f : TurnFrame) (more : List ℕ) →
    slice_index (frame_bytes f ++ more) 2 ≡ slice_index (frame_bytes f) 2
unfolding frame_bytes
third_front (Commit p t d) more = refl
third_front (Reveal p t m n) more = refl

not_empty : (f : TurnFrame) (more : List ℕ) → is_empty (frame_bytes f ++ more) ≡ false
unfolding frame_bytes
not_empty (Commit p t d) more = refl
not_empty (Reveal p t m n) more = refl

module _ (game : Game) (roots : List (List ℕ)) (seed : List ℕ) where
  -- the frame's seal by the keys is valid, by these roots
  abbrev IsSealed : TurnFrame → Type 0
  IsSealed f = IsTrue (is_sealed game roots f (its_seal game seed f))

  -- the bytes of a sealed frame, and what follows
  abbrev followed : TurnFrame → List ℕ → List ℕ
  followed f rest = frame_bytes f ++ (its_seal game seed f ++ rest)

  rest_is : (f : TurnFrame) (rest : List ℕ) → FitsFrame f → IsSealed f →
      drop (frame_len (followed f rest) + seal_len game) (followed f rest) ≡ rest
  rest_is f rest fits h =
      let seal : List ℕ = its_seal game seed f in
      let third = third_front f (seal ++ rest) in
      let frame_long = length-frame f fits in
      let seal_long = sealed_long game roots f seal h in
      let both = length-append (frame_bytes f) seal in
      let all : ℕ = frame_len (followed f rest) + seal_len game in
      let count : length (frame_bytes f ++ seal) ≡ all
      = omega (arith, third, frame_long, seal_long, both) in
      ap (drop all) (sym (append_assoc (frame_bytes f) seal rest))
      ∙ drop_at (frame_bytes f ++ seal) rest all count

  none_bad : (fs : List TurnFrame) (n at : ℕ) → EachIs FitsFrame fs → EachIs IsSealed fs →
      bad_from game roots n at (sealed_frames game seed fs) ≡ None
  none_bad [] n at fit are = bad_empty game roots n at [] refl
  none_bad (f ∷ fs) zero at fit are = bad_done game roots zero at _ refl
  none_bad (f ∷ fs) (suc n) at fit are =
      let seal : List ℕ = its_seal game seed f in
      let rest : List ℕ = sealed_frames game seed fs in
      let bytes : List ℕ = followed f rest in
      let there = ap is_some (found game roots f seal rest fit.0 are.0).0 in
      let some = not_empty f (seal ++ rest) in
      let next : ℕ = at + (frame_len bytes + seal_len game) in
      ap (bad_from game roots (suc n) at) (append_assoc (frame_bytes f) seal rest)
      ∙ bad_on game roots (suc n) at bytes (omega arith) some there
      ∙ ap (bad_from game roots (suc n - 1) next) (rest_is f rest fit.0 are.0)
      ∙ none_bad fs (suc n - 1) next fit.1 are.1

-- ---- by roots that have the player's

module _ (player : ℕ) (s : Sealed) (fair : AreMade s.keys.game player s.made)
    (valid : EachIs (HasValidSeal s.keys) s.made) where
  sealed_by : (roots : List (List ℕ)) → HasRoot roots player s.keys →
      EachIs (IsSealed s.keys.game roots s.keys.seed) s.made
  sealed_by roots root = each_Has (IsSealed s.keys.game roots s.keys.seed) s.made (λ f has.
      let at = Has_slice_get s.made f has in
      let own : player_of f ≡ player = (fair.placed at.0 f at.1).0 in
      let seated = root.0 in
      let known : nat_lt (player_of f) (length roots) ≡ true
      = lt-ltb (player_of f) (length roots) (omega (arith, own, seated)) in
      let its = ap (λ (q : ℕ). item_or roots q []) own ∙ root.1 in
      let seal : List ℕ = its_seal s.keys.game s.keys.seed f in
      let at_root = ap (λ (r : List ℕ). is_valid s.keys.game r f seal) its in
      and_from _ _ known (at_root ∙ Has_each (HasValidSeal s.keys) s.made f valid has))

  pub sound_file : IsFileOfSealed player s
  unfolding first_bad
  sound_file roots root fit short =
      let bytes : List ℕ = sealed_frames s.keys.game s.keys.seed s.made in
      let are = sealed_by roots root in
      let none = none_bad s.keys.game roots s.keys.seed s.made (length bytes) 0 fit are in
      rw (le-ltb LONGEST_LOG (length bytes) short) none
