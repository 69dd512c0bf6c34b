-- Judging: the first good reveal that is kept of a log is the definitions' opening of the turn.
use Rattle.std.proofs.Common.{Bool, List, None, Some, ap, false, refl, subst, sym, true, ℕ, ◌∙◌, ◌≡◌, Option, slice_get, IfSome, IsTrue}
use Rattle.std.specs.Prelude.{◌&&◌, ◌==◌, if◌then◌else◌, is_none, is_ok, is_some, option_and_then, option_map}
use Rattle.std.specs.Option.{option_map_or}
use Rattle.std.specs.Result.{result_ok}
use Rattle.std.proofs.lemmas.Bool.{false≢true, eqb-true, eq-eqb}
use Rattle.definitions.specs.declared.world.Move.{Move}
use Rattle.definitions.specs.declared.world.Track.{Track}
use Rattle.definitions.specs.declared.world.MoveFault.{MoveFault}
use Rattle.definitions.specs.declared.openings.Digest.{Digest}
use Rattle.definitions.specs.declared.frames.TurnFrame.{TurnFrame}
use Rattle.definitions.specs.declared.frames.TurnFrame.TheVariants.{Commit, Reveal}
use Rattle.definitions.specs.declared.logs.Entry.{Entry}
use Rattle.definitions.specs.Lists.{first_of}
use Rattle.definitions.specs.World.{Game, is_open}
use Rattle.definitions.specs.Moves.{is_legal, move_fault, next_track}
use Rattle.definitions.specs.Logs.{digest_eq, got_of, turn_of}
use Rattle.definitions.specs.Held.{digest_of}
use Rattle.definition_laws.specs.Members.{Has}
use Rattle.definition_laws.proofs.Tracks.{legal_in_reach}
use Rattle.definitions.proofs.Walks.{walked_open}
use Rattle.move_rules.specs.Verdicts.{judged as verdict_by, verdict}
use Rattle.frame_index.specs.Openings.{opening_at}
use Rattle.frame_index.specs.declared.seen.Seen.{Seen}
use Rattle.frame_index.specs.InLog.{takes, taken}
use Rattle.frame_index.specs.Judged.{is_good, judged, judged_by}
use Rattle.frame_index.specs.Keeps.{Keeps, IsLeast}
use Rattle.frame_index.proofs.InLog.{first_in_log}

-- where two tests say the same of what is kept, they have the same least
pub least_alike : (p r : Seen → Bool) (kept : List Seen) → ((k : Seen) → Has kept k → p k ≡ r k) → (o : Option Seen) → IsLeast p kept o → IsLeast r kept o
least_alike p r kept same None least = λ k m h. least k m (same k m ∙ h)
least_alike p r kept same (Some k) least = (least.0, sym (same k least.0) ∙ least.1, λ s m h. least.2 s m (same s m ∙ h))

module _ (game : Game) (q : ℕ) (track : Track) (d : Digest) (t : ℕ) where
  -- what the reveal leads to is what the definitions' opening leads to
  pub led_to : (f : TurnFrame) (e : Digest) → turn_of f ≡ t → e ≡ digest_of game f →
      option_and_then result_ok (judged_by game q track (digest_eq e d) f) ≡ option_map (next_track game track) (opening_at game q track d t f)
  unfolding is_legal
  led_to (Commit p u c) e turn digest = refl
  led_to (Reveal p u m n) e turn digest =
      rw digest (go (u == t) (eq-eqb u t turn) (digest_eq (digest_of game (Reveal p u m n)) d) (move_fault game q track m))
    where
      go : (a : Bool) → a ≡ true → (b : Bool) (o : Option MoveFault) →
          option_and_then result_ok (if b then Some (verdict_by game track m o) else None) ≡ option_map (next_track game track) (if a && b && is_none o then Some m else None)
      go true x true None = refl
      go true x true (Some fault) = refl
      go true x false o = refl
      go false x b o = absurd (false≢true x)

  -- it is good where the definitions have an opening
  pub good_at : (f : TurnFrame) (e : Digest) → turn_of f ≡ t → e ≡ digest_of game f → option_map_or is_ok (judged_by game q track (digest_eq e d) f) false ≡ is_some (opening_at game q track d t f)
  unfolding is_legal
  good_at (Commit p u c) e turn digest = refl
  good_at (Reveal p u m n) e turn digest =
      rw digest (go (u == t) (eq-eqb u t turn) (digest_eq (digest_of game (Reveal p u m n)) d) (move_fault game q track m))
    where
      go : (a : Bool) → a ≡ true → (b : Bool) (o : Option MoveFault) →
          option_map_or is_ok (if b then Some (verdict_by game track m o) else None) false ≡ is_some (if a && b && is_none o then Some m else None)
      go true x true None = refl
      go true x true (Some fault) = refl
      go true x false o = refl
      go false x b o = absurd (false≢true x)

  -- an opening is of its turn
  opening_turn : (f : TurnFrame) (m : Move) → opening_at game q track d t f ≡ Some m → turn_of f ≡ t
  opening_turn (Commit p u c) m h = absurd (let e : None ≡ Some m = h in cc)
  opening_turn (Reveal p u k n) m h = go (u == t) refl h
    where
      go : (b : Bool) → (u == t) ≡ b → (if b && digest_eq (digest_of game (Reveal p u k n)) d && is_legal game q track k then Some k else None) ≡ Some m → u ≡ t
      go true e h = eqb-true u t e
      go false e h = absurd (let e : None ≡ Some m = h in cc)

  module _ (logs : List (List Entry)) (log : ℕ) (h : List Entry) (kept : List Seen) (keeps : Keeps game q t logs kept) (there : slice_get logs log ≡ Some h) where
    good_is : (k : Seen) → Has kept k → is_good game q track d log k ≡ takes (opening_at game q track d t) log k
    good_is k m = ap (λ (b : Bool). (k.spot.log == log) && b) (good_at k.frame k.digest (keeps.within k m).turn (keeps.digests k m))

    pub first_good : (o : Option Seen) → IsLeast (is_good game q track d log) kept o → first_of (opening_at game q track d t) (got_of q h) ≡ taken (opening_at game q track d t) o
    first_good o least = first_in_log (opening_at game q track d t) q game t logs log h kept keeps there opening_turn o (least_alike _ _ kept good_is o least)

    -- the track after it
    pub first_led : (k : Seen) → IsLeast (is_good game q track d log) kept (Some k) →
        option_and_then result_ok (judged game q track d k) ≡ option_map (next_track game track) (first_of (opening_at game q track d t) (got_of q h))
    first_led k least = led_to k.frame k.digest (keeps.within k least.0).turn (keeps.digests k least.0) ∙ ap (option_map (next_track game track)) (sym (first_good (Some k) least))

-- a legal move ends on an open cell
pub led_open : (game : Game) (q : ℕ) (track next : Track) (m : Move) → result_ok (verdict game q track m) ≡ Some next → is_open game.grid next.at ≡ true
unfolding is_legal
led_open game q track next m h = go (move_fault game q track m) refl h
  where
    go : (o : Option MoveFault) → move_fault game q track m ≡ o → result_ok (verdict_by game track m o) ≡ Some next → is_open game.grid next.at ≡ true
    go None e h =
        let same : next_track game track m ≡ next = cc in
        subst (λ (t : Track). is_open game.grid t.at ≡ true) same (walked_open game.grid _ _ _ (legal_in_reach game q track m (ap is_none e)))
    go (Some fault) e h = absurd (let x : None ≡ Some next = h in cc)

opened_open : (game : Game) (q : ℕ) (track next : Track) (b : Bool) (f : TurnFrame) → option_and_then result_ok (judged_by game q track b f) ≡ Some next → is_open game.grid next.at ≡ true
opened_open game q track next b (Commit p u d) h = absurd (let x : None ≡ Some next = h in cc)
opened_open game q track next false (Reveal p u m n) h = absurd (let x : None ≡ Some next = h in cc)
opened_open game q track next true (Reveal p u m n) h = led_open game q track next m h

pub opened_open_if : (game : Game) (q : ℕ) (track : Track) (b : Bool) (f : TurnFrame) (o : Option Track) → o ≡ option_and_then result_ok (judged_by game q track b f) → IfSome o (λ t. IsTrue (is_open game.grid t.at))
opened_open_if game q track b f None e = tt
opened_open_if game q track b f (Some next) e = opened_open game q track next b f (sym e)
