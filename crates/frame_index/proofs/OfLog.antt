-- OfLog: the least that is kept of one log, frame by frame.
use Rattle.std.proofs.Common.{Bool, List, None, Some, [], ap, drop, false, length, refl, subst, sym, true, ℕ, ◌+◌, ◌++◌, ◌<◌, ◌∙◌, ◌∷◌, ◌≡◌, Option}
use Rattle.std.specs.Prelude.{◌&&◌, ◌==◌, Ok, Err, get_or, is_none, not, option_map, slice_get, is_ok, map, if◌then◌else◌}
use Rattle.std.specs.List.{list_any}
use Rattle.std.specs.Option.{option_map_or}
use Rattle.std.proofs.lemmas.List.{at_drop_more}
use Rattle.std.proofs.lemmas.Option.{get_or_from_slice_get}
use Rattle.std.proofs.lemmas.Bool.{eq-eqb, false≢true, or_parts}
use Rattle.definitions.specs.declared.findings.Spot.{Spot}
use Rattle.definitions.specs.declared.frames.TurnFrame.{TurnFrame}
use Rattle.definitions.specs.declared.openings.Digest.{Digest}
use Rattle.definitions.specs.declared.frames.TurnFrame.TheVariants.{Commit, Reveal}
use Rattle.definitions.specs.declared.world.Move.{Move}
use Rattle.definitions.specs.declared.world.MoveFault.{MoveFault}
use Rattle.definitions.specs.declared.openings.Nonce.{Nonce}
use Rattle.definitions.specs.declared.logs.Entry.{Entry}
use Rattle.definition_laws.specs.Members.{Has}
use Rattle.definition_laws.proofs.Members.{slice_get_Has}
use Rattle.frame_index.specs.Frames.{IndexState, IsIndex, kept_of}
use Rattle.definitions.specs.declared.world.Track.{Track}
use Rattle.definitions.specs.World.{Game}
use Rattle.definitions.specs.Held.{digest_of}
use Rattle.definitions.specs.Logs.{digest_eq, player_of, turn_of}
use Rattle.definitions.specs.Moves.{is_legal, move_fault, next_track}
use Rattle.move_rules.specs.Verdicts.{judged as verdict_by, verdict}
use Rattle.frame_index.specs.Judged.{judged_by}
use Rattle.frame_index.specs.Openings.{opening_at}
use Rattle.frame_index.specs.declared.kept.KeptFrame.{KeptFrame}
use Rattle.frame_index.specs.declared.seen.Seen.{Seen}
use Rattle.frame_index.specs.Kept.{StandsAt, seen_in, seen_of, seen_with}
use Rattle.frame_index.specs.OfLog.{move_opened, stands_in, with_track}
use Rattle.frame_index.specs.Wants.{least_from, lower}

-- of two lists, one behind the other
pub least_append : (p : Seen → Bool) (best : Option Seen) (xs ys : List Seen) → least_from p best (xs ++ ys) ≡ least_from p (least_from p best xs) ys
least_append p best [] ys = refl
least_append p best (x ∷ xs) ys = least_append p (lower (p x) best x) xs ys

-- one frame more was looked through
pub least_on : (p : Seen → Bool) (ks : List KeptFrame) (i : ℕ) (k : KeptFrame) (best next o : Option Seen) → i < length ks → k ≡ get_or ks i k → next ≡ least_from p best (seen_of k) →
    least_from p best (seen_in (drop i ks)) ≡ o → least_from p next (seen_in (drop (i + 1) ks)) ≡ o
least_on p ks i k best next o lt is on before =
    ap (λ (b : Option Seen). least_from p b (seen_in (drop (i + 1) ks))) on
    ∙ sym (least_append p best (seen_of k) (seen_in (drop (i + 1) ks)))
    ∙ ap (λ (x : KeptFrame). least_from p best (seen_in (x ∷ drop (i + 1) ks))) is
    ∙ sym (at_drop_more (λ (xs : List KeptFrame). least_from p best (seen_in xs)) ks i k lt)
    ∙ before

-- by two tests that say the same of the frame's spots
least_by : (p r : Seen → Bool) (f : TurnFrame) (d : Digest) (spots : List Spot) (best : Option Seen) → ((s : Spot) → p (seen_with f d s) ≡ r (seen_with f d s)) →
    least_from p best (map (seen_with f d) spots) ≡ least_from r best (map (seen_with f d) spots)
least_by p r f d [] best same = refl
least_by p r f d (s ∷ spots) best same =
    ap (λ (b : Bool). least_from p (lower b best (seen_with f d s)) (map (seen_with f d) spots)) (same s) ∙ least_by p r f d spots (lower (r (seen_with f d s)) best (seen_with f d s)) same

-- by a test that none of the frame's spots passes
least_none : (p : Seen → Bool) (f : TurnFrame) (d : Digest) (spots : List Spot) (best : Option Seen) → ((s : Spot) → p (seen_with f d s) ≡ false) →
    least_from p best (map (seen_with f d) spots) ≡ best
least_none p f d [] best none = refl
least_none p f d (s ∷ spots) best none =
    ap (λ (b : Bool). least_from p (lower b best (seen_with f d s)) (map (seen_with f d) spots)) (none s) ∙ least_none p f d spots best none

module _ (test : TurnFrame → Digest → Bool) (log : ℕ) where
  -- it stands in the log, and its frame and digest pass the test
  abbrev pub tested : Seen → Bool
  tested k = (k.spot.log == log) && test k.frame k.digest

  and_true : (b : Bool) → (b && true) ≡ b
  and_true true = refl
  and_true false = refl

  and_false : (b : Bool) → (b && false) ≡ false
  and_false true = refl
  and_false false = refl

  -- where the frame passes the test, its spots in the log are looked at, and else none
  pub taken_in : (k : KeptFrame) (best : Option Seen) → test k.frame k.digest ≡ true → least_from (stands_in log) best (seen_of k) ≡ least_from tested best (seen_of k)
  taken_in k best passes =
      sym (least_by tested (stands_in log) k.frame k.digest k.spots.items best (λ s. ap (λ (b : Bool). (s.log == log) && b) passes ∙ and_true (s.log == log)))

  pub left_out : (k : KeptFrame) (best : Option Seen) → test k.frame k.digest ≡ false → best ≡ least_from tested best (seen_of k)
  left_out k best fails =
      sym (least_none tested k.frame k.digest k.spots.items best (λ s. ap (λ (b : Bool). (s.log == log) && b) fails ∙ and_false (s.log == log)))

  -- where none of the frame's spots is in the log, none is taken
  absent : (f : TurnFrame) (d : Digest) (spots : List Spot) (best : Option Seen) → list_any (λ x. x.log == log) spots ≡ false → least_from tested best (map (seen_with f d) spots) ≡ best
  absent f d [] best none = refl
  absent f d (s ∷ spots) best none =
      let parts = or_parts (s.log == log) (list_any (λ x. x.log == log) spots) none in
      ap (λ (b : Bool). least_from tested (lower (b && test f d) best (seen_with f d s)) (map (seen_with f d) spots)) parts.0 ∙ absent f d spots best parts.1

  pub passed_over : (k : KeptFrame) (best : Option Seen) → list_any (λ x. x.log == log) k.spots.items ≡ false → best ≡ least_from tested best (seen_of k)
  passed_over k best none = sym (absent k.frame k.digest k.spots.items best none)

-- the test by which a reveal that opens the digest by a legal move is known
abbrev pub leads_by : Game → ℕ → Track → Digest → TurnFrame → Digest → Bool
leads_by game q track d f e = option_map_or is_ok (judged_by game q track (digest_eq e d) f) false

-- the move opened is that of the definitions
pub opened_is : (game : Game) (q : ℕ) (track : Track) (d e : Digest) (t : ℕ) (f : TurnFrame) → turn_of f ≡ t → e ≡ digest_of game f → move_opened game q track (digest_eq e d) f ≡ opening_at game q track d t f
opened_is game q track d e t (Commit p u c) turn digest = refl
opened_is game q track d e t (Reveal p u m n) turn digest = rw digest (go (u == t) (eq-eqb u t turn) (digest_eq (digest_of game (Reveal p u m n)) d) (is_legal game q track m))
  where
    go : (a : Bool) → a ≡ true → (b l : Bool) → (if b && l then Some m else None) ≡ (if a && b && l then Some m else None)
    go true x b l = refl
    go false x b l = absurd (false≢true x)

-- a reveal whose move is legal leads to the track after it, and one whose move isn't leads nowhere
pub legal_opened : (game : Game) (q : ℕ) (track next : Track) (m : Move) → verdict game q track m ≡ Ok next → (m, next) ≡ with_track game track m
legal_opened game q track next m h = go (move_fault game q track m) h
  where
    go : (o : Option MoveFault) → verdict_by game track m o ≡ Ok next → (m, next) ≡ with_track game track m
    go None h = let e : next_track game track m ≡ next = cc in ap (λ (x : Track). (m, x)) (sym e)
    go (Some fault) h = absurd (let x : Err fault ≡ Ok next = h in cc)

pub legal_is : (game : Game) (q : ℕ) (track next : Track) (m : Move) → verdict game q track m ≡ Ok next → is_legal game q track m ≡ true
unfolding is_legal
legal_is game q track next m h = go (move_fault game q track m) h
  where
    go : (o : Option MoveFault) → verdict_by game track m o ≡ Ok next → is_none o ≡ true
    go None h = refl
    go (Some fault) h = absurd (let x : Err fault ≡ Ok next = h in cc)

pub illegal_is : (game : Game) (q : ℕ) (track : Track) (fault : MoveFault) (m : Move) → verdict game q track m ≡ Err fault → is_legal game q track m ≡ false
unfolding is_legal
illegal_is game q track fault m h = go (move_fault game q track m) h
  where
    go : (o : Option MoveFault) → verdict_by game track m o ≡ Err fault → is_none o ≡ false
    go None h = absurd (let x : Ok (next_track game track m) ≡ Err fault = h in cc)
    go (Some f) h = refl

-- the least of what is kept, by another name of it
pub kept_least : (p : Seen → Bool) (ks ls : List KeptFrame) (o : Option Seen) → ks ≡ ls → least_from p None (seen_in ks) ≡ o → least_from p None (seen_in ls) ≡ o
kept_least p ks ls o same least = ap (λ (xs : List KeptFrame). least_from p None (seen_in xs)) (sym same) ∙ least

-- what a reveal comes to whose move isn't legal, and one that opens the digest by a legal move
pub opens_not : (game : Game) (q : ℕ) (track : Track) (b : Bool) (f : TurnFrame) (p t : ℕ) (m : Move) (n : Nonce) (fault : MoveFault) → f ≡ Reveal p t m n → verdict game q track m ≡ Err fault →
    None ≡ option_map (with_track game track) (move_opened game q track b f)
opens_not game q track b f p t m n fault is wrong = rw (is, illegal_is game q track fault m wrong) (go b)
  where
    go : (b : Bool) → None ≡ option_map (with_track game track) (if b && false then Some m else None)
    go true = refl
    go false = refl

pub opens_to : (game : Game) (q : ℕ) (track next : Track) (b : Bool) (f : TurnFrame) (p t : ℕ) (m : Move) (n : Nonce) → f ≡ Reveal p t m n → b ≡ true → verdict game q track m ≡ Ok next →
    Some (m, next) ≡ option_map (with_track game track) (move_opened game q track b f)
opens_to game q track next b f p t m n is opens right = rw (is, opens, legal_is game q track next m right) (ap (λ (x : Move × Track). Some x) (legal_opened game q track next m right))

pub not_false : (b : Bool) → not b ≡ false → b ≡ true
not_false true h = refl
not_false false h = absurd (false≢true (sym h))

-- the digest of a frame that is kept
pub kept_digest : (game : Game) (logs : List (List Entry)) (index : IndexState) (f : TurnFrame) (ks : List KeptFrame) (at : ℕ) (k : KeptFrame) → IsIndex game logs index →
    ks ≡ kept_of index (player_of f) (turn_of f) → StandsAt ks at f → k ≡ get_or ks at k → k.digest ≡ digest_of game f
kept_digest game logs index f ks at k stands are (l, there, frame) is =
    let same : l ≡ k = sym (get_or_from_slice_get ks at l k there) ∙ sym is in
    let right = (stands.own (player_of f) (turn_of f) l (subst (λ (xs : List KeptFrame). Has xs l) are (slice_get_Has ks at l there))).2 in
    subst (λ (x : KeptFrame). x.digest ≡ digest_of game f) same (right ∙ ap (digest_of game) frame)
