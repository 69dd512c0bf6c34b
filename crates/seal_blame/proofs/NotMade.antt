-- NotMade: frames that show that a player broke the protocol are not all among those that it made.
use Rattle.std.proofs.Common.{◌≡◌, ℕ, zero, suc, Bool, true, false, List, [], ◌∷◌, ◌++◌, Some, length, take, slice_get, refl, sym, ap, ◌∙◌, subst}
use Rattle.std.specs.Prelude.{◌==◌, ◌&&◌, if◌then◌else◌, nat_lt, not}
use Rattle.std.proofs.lemmas.Bool.{and_parts, both_ways, eqb-true, false≢true, not-true}
use Rattle.std.proofs.lemmas.List.{take_more, length_push}
use Rattle.std.proofs.lemmas.Option.{same_Some, slice_get_within, get_or_from_slice_get}
use Rattle.definitions.specs.declared.world.Move.{Move}
use Rattle.definitions.specs.declared.world.Track.{Track}
use Rattle.definitions.specs.declared.openings.Digest.{Digest}
use Rattle.definitions.specs.declared.openings.Nonce.{Nonce}
use Rattle.definitions.specs.declared.findings.Kind.TheVariants.{TwoCommits, BadOpening, Collision, Illegal}
use Rattle.definitions.specs.declared.frames.TurnFrame.{TurnFrame}
use Rattle.definitions.specs.declared.frames.TurnFrame.TheVariants.{Commit, Reveal}
use Rattle.definitions.specs.Lists.{is_empty}
use Rattle.definitions.specs.World.{Game, players_of}
use Rattle.definitions.specs.Moves.{are_legal_from, is_legal, next_track, track_after, track_from, start_track}
use Rattle.definitions.specs.Logs.{digest_eq, frame_eq, player_of, turn_of}
use Rattle.definitions.specs.Held.{digest_of}
use Rattle.definitions.specs.Findings.{are_bad_opening, are_collision, are_two_commits, same_digest}
use Rattle.definitions.specs.Exhibits.{are_of_kind, are_two_of, end_illegal, is_of_turn, is_opened_by}
use Rattle.definitions.specs.Answers.{place_of}
use Rattle.definition_laws.specs.Members.{Has}
use Rattle.definition_laws.proofs.Members.{Has_slice_get}
use Rattle.definition_laws.proofs.Strikes.{legal_at}
use Rattle.definition_laws.proofs.Alike.{digest_eq_same, frame_eq_same}
use Rattle.seal_blame.specs.Made.{AreMade}
use Rattle.seal_blame.specs.Laws.{ShownFramesAreNotMade}

never : (b : Bool) → b ≡ true → not b ≡ true → ⊥
never b e n = both_ways b (not-true b n) e

-- ---- one frame a place

pub at_its_place : (game : Game) (q : ℕ) (made : List TurnFrame) (f : TurnFrame) → AreMade game q made → Has made f → slice_get made (place_of game f) ≡ Some f
at_its_place game q made f are h =
    let k = Has_slice_get made f h in
    ap (slice_get made) ((are.placed k.0 f k.1).2) ∙ k.1

same_place : (game : Game) (q : ℕ) (made : List TurnFrame) (f g : TurnFrame) → AreMade game q made → Has made f → Has made g → place_of game f ≡ place_of game g → f ≡ g
same_place game q made f g are a b same =
    same_Some f g (sym (at_its_place game q made f are a) ∙ ap (slice_get made) same ∙ at_its_place game q made g are b)

-- ---- two frames of a turn

is_of : (q t : ℕ) (f : TurnFrame) → is_of_turn q t f ≡ true → (player_of f ≡ q) × (turn_of f ≡ t)
is_of q t f h = let a = and_parts (player_of f == q) (turn_of f == t) h in (eqb-true (player_of f) q a.0, eqb-true (turn_of f) t a.1)

commits_same : (game : Game) (q : ℕ) (made : List TurnFrame) (p t p' t' : ℕ) (d d' : Digest) → AreMade game q made → Has made (Commit p t d) → Has made (Commit p' t' d') → t ≡ t' → d ≡ d'
unfolding place_of
commits_same game q made p t p' t' d d' are a b same =
    let one = same_place game q made (Commit p t d) (Commit p' t' d') are a b (ap (λ (u : ℕ). place_of game (Commit p u d)) same) in cc

reveals_same : (game : Game) (q : ℕ) (made : List TurnFrame) (p t p' t' : ℕ) (m m' : Move) (n n' : Nonce) → AreMade game q made →
    Has made (Reveal p t m n) → Has made (Reveal p' t' m' n') → t ≡ t' → ◌≡◌ {A = TurnFrame} (Reveal p t m n) (Reveal p' t' m' n')
unfolding place_of
reveals_same game q made p t p' t' m m' n n' are a b same =
    same_place game q made (Reveal p t m n) (Reveal p' t' m' n') are a b (ap (λ (u : ℕ). place_of game (Reveal p u m n)) same)

digests_of_same : (game : Game) (f g : TurnFrame) → digest_of game f ≡ digest_of game g → same_digest game f g ≡ true
digests_of_same game f g e = ap (λ (d : Digest). digest_eq (digest_of game f) d) (sym e) ∙ digest_eq_same (digest_of game f)

opened_by : (game : Game) (q : ℕ) (made : List TurnFrame) (p t p' t' : ℕ) (m : Move) (n : Nonce) (d : Digest) → AreMade game q made →
    Has made (Commit p t d) → Has made (Reveal p' t' m n) → p ≡ p' → t ≡ t' → d ≡ digest_of game (Reveal p' t' m n)
opened_by game q made p t p' t' m n d are c r sp st =
    let same : ◌≡◌ {A = TurnFrame} (Commit p t d) (Commit p' t' d) = cc in
    are.opened p' t' m n d r (subst (Has made) same c)

digest_of_commit : (game : Game) (p t : ℕ) (d : Digest) → digest_of game (Commit p t d) ≡ d
unfolding digest_of
digest_of_commit game p t d = refl

commit_digest : (game : Game) (p t p' t' : ℕ) (d d' : Digest) → d ≡ d' → digest_of game (Commit p t d) ≡ digest_of game (Commit p' t' d')
commit_digest game p t p' t' d d' e = digest_of_commit game p t d ∙ e ∙ sym (digest_of_commit game p' t' d')

-- ---- two frames that show something

-- the two frames, where both were made
record AreTwo (game : Game) (q t : ℕ) (made : List TurnFrame) (f g : TurnFrame) : Type 0 where
  fair : AreMade game q made
  one : Has made f
  other : Has made g
  one_is : (player_of f ≡ q) × (turn_of f ≡ t)
  other_is : (player_of g ≡ q) × (turn_of g ≡ t)

two_commits : (game : Game) (q t : ℕ) (made : List TurnFrame) (f g : TurnFrame) → AreTwo game q t made f g → are_two_commits game f g ≡ true → ⊥
two_commits game q t made (Commit p u d) (Commit p' u' d') two h =
    let turns : u ≡ u' = two.one_is.1 ∙ sym two.other_is.1 in
    let same = commits_same game q made p u p' u' d d' two.fair two.one two.other turns in
    never (same_digest game (Commit p u d) (Commit p' u' d')) (digests_of_same game (Commit p u d) (Commit p' u' d') (commit_digest game p u p' u' d d' same)) h
two_commits game q t made (Commit p u d) (Reveal p' u' m n) two h = absurd (false≢true h)
two_commits game q t made (Reveal p u m n) g two h = absurd (false≢true h)

bad_opening : (game : Game) (q t : ℕ) (made : List TurnFrame) (f g : TurnFrame) → AreTwo game q t made f g → are_bad_opening game f g ≡ true → ⊥
bad_opening game q t made (Commit p u d) (Commit p' u' d') two h = absurd (false≢true h)
bad_opening game q t made (Commit p u d) (Reveal p' u' m n) two h =
    let opens = opened_by game q made p u p' u' m n d two.fair two.one two.other (two.one_is.0 ∙ sym two.other_is.0) (two.one_is.1 ∙ sym two.other_is.1) in
    never (same_digest game (Commit p u d) (Reveal p' u' m n)) (digests_of_same game (Commit p u d) (Reveal p' u' m n) (digest_of_commit game p u d ∙ opens)) h
bad_opening game q t made (Reveal p u m n) (Commit p' u' d') two h =
    let opens = opened_by game q made p' u' p u m n d' two.fair two.other two.one (two.other_is.0 ∙ sym two.one_is.0) (two.other_is.1 ∙ sym two.one_is.1) in
    never (same_digest game (Reveal p u m n) (Commit p' u' d')) (digests_of_same game (Reveal p u m n) (Commit p' u' d') (sym opens ∙ sym (digest_of_commit game p' u' d'))) h
bad_opening game q t made (Reveal p u m n) (Reveal p' u' m' n') two h =
    let same = reveals_same game q made p u p' u' m m' n n' two.fair two.one two.other (two.one_is.1 ∙ sym two.other_is.1) in
    never (same_digest game (Reveal p u m n) (Reveal p' u' m' n')) (digests_of_same game (Reveal p u m n) (Reveal p' u' m' n') (ap (digest_of game) same)) h

collision : (game : Game) (q t : ℕ) (made : List TurnFrame) (f g : TurnFrame) → AreTwo game q t made f g → are_collision game f g ≡ true → ⊥
collision game q t made (Commit p u d) g two h = absurd (false≢true h)
collision game q t made (Reveal p u m n) (Commit p' u' d') two h = absurd (false≢true h)
collision game q t made (Reveal p u m n) (Reveal p' u' m' n') two h =
    let b = and_parts (not (frame_eq (Reveal p u m n) (Reveal p' u' m' n'))) (same_digest game (Reveal p u m n) (Reveal p' u' m' n')) h in
    let same = reveals_same game q made p u p' u' m m' n n' two.fair two.one two.other (two.one_is.1 ∙ sym two.other_is.1) in
    never (frame_eq (Reveal p u m n) (Reveal p' u' m' n')) (ap (frame_eq (Reveal p u m n)) (sym same) ∙ frame_eq_same (Reveal p u m n)) b.0

-- two frames, both of the turn, that pass a test, and both of which were made
two_of : (game : Game) (q t : ℕ) (made : List TurnFrame) (test : TurnFrame → TurnFrame → Bool) (fs : List TurnFrame) → AreMade game q made →
    ((j : ℕ) (f : TurnFrame) → slice_get fs j ≡ Some f → Has made f) → are_two_of q t test fs ≡ true → ((f g : TurnFrame) → AreTwo game q t made f g → test f g ≡ true → ⊥) → ⊥
two_of game q t made test [] are all h refute = false≢true h
two_of game q t made test (f ∷ []) are all h refute = false≢true h
two_of game q t made test (f ∷ g ∷ []) are all h refute =
    let a = and_parts (is_of_turn q t f && is_of_turn q t g) (test f g) h in
    let b = and_parts (is_of_turn q t f) (is_of_turn q t g) a.0 in
    refute f g (record { fair = are; one = all 0 f refl; other = all 1 g refl; one_is = is_of q t f b.0; other_is = is_of q t g b.1 }) a.1
two_of game q t made test (f ∷ g ∷ e ∷ es) are all h refute = false≢true h

-- ---- an illegal move

-- a reveal that was made is legal after the moves before
made_legal : (game : Game) (q : ℕ) (made : List TurnFrame) (before : List Move) (p u : ℕ) (m : Move) (n : Nonce) (are : AreMade game q made) → before ≡ take (length before) are.moves →
    u ≡ length before → Has made (Reveal p u m n) → is_legal game q (track_after game q before) m ≡ true
made_legal game q made before p u m n are is at h =
    let moved = ap (slice_get are.moves) (sym at) ∙ are.shown p u m n h in
    ap (λ (ms : List Move). is_legal game q (track_after game q ms) m) is ∙ legal_at game q (start_track game q) are.moves (length before) m are.legal moved

one_more : (moves before : List Move) (m : Move) → before ≡ take (length before) moves → slice_get moves (length before) ≡ Some m → before ++ m ∷ [] ≡ take (length (before ++ m ∷ [])) moves
one_more moves before m is h =
    let lt = slice_get_within moves (length before) m h in
    let long = length_push before m in
    ap (λ (ms : List Move). ms ++ m ∷ []) is ∙ ap (λ (x : Move). take (length before) moves ++ x ∷ []) (sym (get_or_from_slice_get moves (length before) m m h))
    ∙ sym (take_more moves (length before) m lt) ∙ ap (λ (k : ℕ). take k moves) (sym long)

opened_part : (game : Game) (q : ℕ) (before : List Move) (f g : TurnFrame) (opened rest : Bool) →
    (is_of_turn q (length before) f && is_of_turn q (length before) g && opened && rest) ≡ true → opened ≡ true
opened_part game q before f g opened rest h =
    let a = and_parts (is_of_turn q (length before) f && is_of_turn q (length before) g && opened) rest h in
    (and_parts (is_of_turn q (length before) f && is_of_turn q (length before) g) opened a.0).1

-- turn by turn
not_illegal : (game : Game) (q last : ℕ) (made fs : List TurnFrame) (before : List Move) (are : AreMade game q made) → before ≡ take (length before) are.moves →
    ((j : ℕ) (f : TurnFrame) → slice_get fs j ≡ Some f → Has made f) → end_illegal game q last fs before ≡ true → ⊥
unfolding end_illegal
not_illegal game q last made [] before are is all h = false≢true h
not_illegal game q last made (f ∷ []) before are is all h = false≢true h
not_illegal game q last made (Reveal p u m n ∷ g ∷ fs) before are is all h = false≢true (opened_part game q before (Reveal p u m n) g false _ h)
not_illegal game q last made (Commit p u d ∷ Commit p' u' d' ∷ fs) before are is all h = false≢true (opened_part game q before (Commit p u d) (Commit p' u' d') false _ h)
not_illegal game q last made (Commit p u d ∷ Reveal p' u' m n ∷ fs) before are is all h =
    let a = and_parts (is_of_turn q (length before) (Commit p u d) && is_of_turn q (length before) (Reveal p' u' m n) && is_opened_by game (Commit p u d) (Reveal p' u' m n)) _ h in
    let b = and_parts (is_of_turn q (length before) (Commit p u d) && is_of_turn q (length before) (Reveal p' u' m n)) (is_opened_by game (Commit p u d) (Reveal p' u' m n)) a.0 in
    let o = and_parts (is_of_turn q (length before) (Commit p u d)) (is_of_turn q (length before) (Reveal p' u' m n)) b.0 in
    let at = (is_of q (length before) (Reveal p' u' m n) o.1).1 in
    let made_here : Has made (Reveal p' u' m n) = all 1 (Reveal p' u' m n) refl in
    let legal = made_legal game q made before p' u' m n are is at made_here in
    let moved = ap (slice_get are.moves) (sym at) ∙ are.shown p' u' m n made_here in
    go (length before == last) a.1 legal
    (not_illegal game q last made fs (before ++ m ∷ []) are (one_more are.moves before m is moved) (λ j f e. all (suc (suc j)) f e))
  where
    go : (b : Bool) → (if b then not (is_legal game q (track_after game q before) m) && is_empty fs else not (not (is_legal game q (track_after game q before) m)) && end_illegal game q last fs (before ++ m ∷ [])) ≡ true →
        is_legal game q (track_after game q before) m ≡ true → (end_illegal game q last fs (before ++ m ∷ []) ≡ true → ⊥) → ⊥
    go true e legal rest = never (is_legal game q (track_after game q before) m) legal (and_parts (not (is_legal game q (track_after game q before) m)) (is_empty fs) e).0
    go false e legal rest = rest (and_parts (not (not (is_legal game q (track_after game q before) m))) (end_illegal game q last fs (before ++ m ∷ [])) e).1

pub not_all_made : ShownFramesAreNotMade
unfolding are_of_kind
not_all_made game q t TwoCommits fs made shows are all =
    let a = and_parts (nat_lt q (players_of game) && nat_lt t game.turns) (are_two_of q t (are_two_commits game) fs) shows in
    two_of game q t made (are_two_commits game) fs are all a.1 (λ f g. two_commits game q t made f g)
not_all_made game q t BadOpening fs made shows are all =
    let a = and_parts (nat_lt q (players_of game) && nat_lt t game.turns) (are_two_of q t (are_bad_opening game) fs) shows in
    two_of game q t made (are_bad_opening game) fs are all a.1 (λ f g. bad_opening game q t made f g)
not_all_made game q t Collision fs made shows are all =
    let a = and_parts (nat_lt q (players_of game) && nat_lt t game.turns) (are_two_of q t (are_collision game) fs) shows in
    two_of game q t made (are_collision game) fs are all a.1 (λ f g. collision game q t made f g)
not_all_made game q t Illegal fs made shows are all =
    let a = and_parts (nat_lt q (players_of game) && nat_lt t game.turns) (end_illegal game q t fs []) shows in
    not_illegal game q t made fs [] are refl all a.1
