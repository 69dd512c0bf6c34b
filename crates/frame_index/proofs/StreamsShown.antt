-- Shown: what is known of a stream one place further.
use Rattle.std.proofs.Common.{◌≡◌, ℕ, zero, suc, ◌+◌, ◌-◌, ◌*◌, ◌≤◌, ◌<◌, List, [], ◌∷◌, length, length-append, refl, true, sym, ◌∙◌, ap, subst, arith, inl, inr, ◌⊎◌, Option, Some, None}
use Rattle.std.specs.Prelude.{option_map, is_none, min, slice_get}
use Rattle.std.proofs.lemmas.Bool.{cases_lt}
use Rattle.std.proofs.lemmas.Option.{slice_get_past, slice_get_within}
use Rattle.definitions.specs.declared.world.Track.{Track}
use Rattle.definitions.specs.declared.openings.Digest.{Digest}
use Rattle.definitions.specs.declared.frames.TurnFrame.{TurnFrame}
use Rattle.definitions.specs.World.{Game, players_of, is_open}
use Rattle.definitions.specs.Moves.{next_track, start_track, track_after}
use Rattle.definitions.specs.declared.logs.Entry.{Entry}
use Rattle.definitions.specs.Logs.{frames_of}
use Rattle.definitions.specs.Lists.{first_of}
use Rattle.definitions.specs.Held.{Known, known, known_to, next_known, first_commit, opened, places_in, with_commit, with_move}
use Rattle.definition_laws.proofs.Headline.{known_to_sound}
use Rattle.definition_laws.proofs.Listing.{none_past}
use Rattle.definition_laws.proofs.Knowing.{known_to_orderly, known_to_stuck, next_place_or, places_or_stuck, next_commit, next_reveal, next_end}
use Rattle.definition_laws.proofs.Tracks.{AreKnownLegal, known_to_legal, moves_open, track_from_append}
use Rattle.grid_world.specs.Sessions.{IsSession}
use Rattle.grid_world.proofs.Facts.{seat_open}
use Rattle.grid_world.specs.declared.streams.Stream.{Stream}
use Rattle.frame_index.specs.Openings.{opening_at}
use Rattle.grid_world.specs.Streams.{next_of}
use Rattle.frame_index.specs.Streams.{stream_of, IsCommitNext, IsReadFrom, IsStream}
use Rattle.frame_index.proofs.Opened.{first_opening_at}

-- where a player stands after the moves that are known of it is open
pub known_open : (game : Game) (q n : ℕ) (fs : List TurnFrame) → IsSession game → q < players_of game → is_open game.grid (track_after game q (known_to game q fs n).moves).at ≡ true
unfolding AreKnownLegal
known_open game q n fs is lt = moves_open game q (start_track game q) (known_to game q fs n).moves (seat_open game q is lt) (known_to_legal game q fs n)

-- what holds of every stream
pub stream_facts : (game : Game) (q n : ℕ) (fs : List TurnFrame) → IsSession game → q < players_of game → IsStream game (stream_of game q (known_to game q fs n))
stream_facts game q n fs is lt =
    let o = known_to_orderly game q fs n in
    let within = o.within in
    let turns = o.turns in
    let most = is.turns.1 in
    record {
      before = before o.least;
      after = omega arith;
      within = omega arith;
      few = omega arith;
      opens = known_open game q n fs is lt;
    }
  where
    before : (length (known_to game q fs n).moves ≡ 0) ⊎ (min (length (known_to game q fs n).moves + game.ahead) (game.turns + 1) ≤ length (known_to game q fs n).digests + 1) →
        length (known_to game q fs n).moves ≤ length (known_to game q fs n).digests
    before (inl e) = omega arith
    before (inr e) = let one = is.ahead.0 in let turns = (known_to_orderly game q fs n).turns in omega arith

pub stream_from : (s r : Stream) → s.commits ≡ r.commits → s.resolved ≡ r.resolved → s.track ≡ r.track → s ≡ r
stream_from s r a b c =
    let at_commits : ℕ → Stream = λ x. record { commits = x; resolved = s.resolved; track = s.track } in
    let at_resolved : ℕ → Stream = λ x. record { commits = r.commits; resolved = x; track = s.track } in
    let at_track : Track → Stream = λ x. record { commits = r.commits; resolved = r.resolved; track = x } in
    ap at_commits a ∙ ap at_resolved b ∙ ap at_track c

-- what holds of a stream that the frames show
pub shown_facts : (game : Game) (q : ℕ) (fs : List TurnFrame) (s : Stream) → IsSession game → q < players_of game → IsReadFrom game q fs s → IsStream game s
shown_facts game q fs s is lt shown = subst (λ (r : Stream). IsStream game r) (sym shown) (stream_facts game q (next_of s) fs is lt)

-- what the frames show of the places of this stream
abbrev known_by : Game → ℕ → List TurnFrame → Stream → Known
known_by game q fs s = known_to game q fs (next_of s)

shown_commits : (game : Game) (q : ℕ) (fs : List TurnFrame) (s : Stream) → IsReadFrom game q fs s → s.commits ≡ length (known_by game q fs s).digests
shown_commits game q fs s shown = ap (λ (r : Stream). r.commits) shown

shown_resolved : (game : Game) (q : ℕ) (fs : List TurnFrame) (s : Stream) → IsReadFrom game q fs s → s.resolved ≡ length (known_by game q fs s).moves
shown_resolved game q fs s shown = ap (λ (r : Stream). r.resolved) shown

shown_track : (game : Game) (q : ℕ) (fs : List TurnFrame) (s : Stream) → IsReadFrom game q fs s → s.track ≡ track_after game q (known_by game q fs s).moves
shown_track game q fs s shown = ap (λ (r : Stream). r.track) shown

shown_next : (game : Game) (q : ℕ) (fs : List TurnFrame) (s r : Stream) (l : Known) → next_known game q fs (known_by game q fs s) ≡ l → next_of r ≡ next_of s + 1 →
    r ≡ stream_of game q l → IsReadFrom game q fs r
unfolding known_to
shown_next game q fs s r l next place is =
    let later : suc (next_of s) ≡ next_of r = omega arith in
    is ∙ ap (stream_of game q) (sym next) ∙ ap (λ n. stream_of game q (known_to game q fs n)) later

-- the digest held of a turn is that of its first commitment
held_first : (game : Game) (q n t : ℕ) (fs : List TurnFrame) → t < length (known_to game q fs n).digests → first_commit fs t ≡ slice_get (known_to game q fs n).digests t
held_first game q n t fs lt = go (slice_get (known_to game q fs n).digests t) refl
  where
    go : (o : Option Digest) → slice_get (known_to game q fs n).digests t ≡ o → first_commit fs t ≡ slice_get (known_to game q fs n).digests t
    go None e = let past = none_past (known_to game q fs n).digests t (ap is_none e) in absurd (omega arith)
    go (Some d) e = (known_to_sound game q fs n).first t d e ∙ sym e

pub held_there : (game : Game) (q t : ℕ) (fs : List TurnFrame) (s : Stream) → IsReadFrom game q fs s → t < s.commits → first_commit fs t ≡ slice_get (known_by game q fs s).digests t
held_there game q t fs s shown lt = let commits = shown_commits game q fs s shown in held_first game q (next_of s) t fs (omega arith)

pub held_past : (game : Game) (q t : ℕ) (fs : List TurnFrame) (s : Stream) → IsReadFrom game q fs s → s.commits ≤ t → None ≡ slice_get (known_by game q fs s).digests t
held_past game q t fs s shown le = let commits = shown_commits game q fs s shown in sym (slice_get_past (known_by game q fs s).digests t (omega arith))

-- a commitment is next: it is not there, or it is
next_commitment : (game : Game) (q : ℕ) (fs : List TurnFrame) (s : Stream) (o : Option Digest) → IsReadFrom game q fs s → IsCommitNext game s → o ≡ first_commit fs s.commits →
    next_known game q fs (known_by game q fs s) ≡ with_commit (known_by game q fs s) o
next_commitment game q fs s o shown next found =
    let commits = shown_commits game q fs s shown in
    let resolved = shown_resolved game q fs s shown in
    next_commit game q fs (known_by game q fs s) (omega arith) ∙ ap (with_commit (known_by game q fs s)) (ap (first_commit fs) (sym commits) ∙ sym found)

pub still_commit : (game : Game) (q : ℕ) (fs : List TurnFrame) (s : Stream) → IsReadFrom game q fs s → IsCommitNext game s → None ≡ first_commit fs s.commits →
    next_known game q fs (known_by game q fs s) ≡ known_by game q fs s
still_commit game q fs s shown next found = next_commitment game q fs s None shown next found

pub there_commit : (game : Game) (q : ℕ) (fs : List TurnFrame) (s : Stream) (d : Digest) → IsReadFrom game q fs s → IsCommitNext game s → Some d ≡ first_commit fs s.commits →
    IsReadFrom game q fs (record { commits = s.commits + 1; resolved = s.resolved; track = s.track })
there_commit game q fs s d shown next found =
    shown_next game q fs s _ (with_commit (known_by game q fs s) (Some d)) (next_commitment game q fs s (Some d) shown next found) (omega arith)
    (stream_from _ _ (ap (λ n. n + 1) (shown_commits game q fs s shown) ∙ sym (length-append (known_by game q fs s).digests (d ∷ []))) (shown_resolved game q fs s shown) (shown_track game q fs s shown))

map_none : {X Y : Type 0} (g : X → Y) (o : Option X) → None ≡ option_map g o → o ≡ None
map_none g None h = refl
map_none g (Some x) h = absurd (cc)

map_some : {X Y : Type 0} (g : X → Y) (o : Option X) (y : Y) → Some y ≡ option_map g o → (x : X) × (o ≡ Some x) × (y ≡ g x)
map_some g None y h = absurd (cc)
map_some g (Some x) y h = (x, refl, cc)

not_next : (game : Game) (s : Stream) → (IsCommitNext game s → ⊥) → min (s.resolved + game.ahead) game.turns ≤ s.commits
not_next game s next = elim (cases_lt s.commits (min (s.resolved + game.ahead) game.turns)) [
  | inl lt ↦ absurd (next lt)
  | inr ge ↦ ge
]

-- a reveal is next: no commitment of its turn is held, as where all turns are resolved
pub still_none : (game : Game) (q : ℕ) (fs : List TurnFrame) (s : Stream) → IsReadFrom game q fs s → (IsCommitNext game s → ⊥) → None ≡ slice_get (known_by game q fs s).digests s.resolved →
    next_known game q fs (known_by game q fs s) ≡ known_by game q fs s
still_none game q fs s shown next none =
    let commits = shown_commits game q fs s shown in
    let resolved = shown_resolved game q fs s shown in
    let all = not_next game s next in
    elim (cases_lt s.resolved game.turns) [
      | inl lt ↦
          next_reveal game q fs (known_by game q fs s) (omega arith) (omega arith)
          ∙ ap (λ (o : Option Digest). with_move (known_by game q fs s) (opened game q (known_by game q fs s).moves fs (length (known_by game q fs s).moves) o))
          (ap (slice_get (known_by game q fs s).digests) (sym resolved) ∙ sym none)
      | inr end ↦ next_end game q fs (known_by game q fs s) (omega arith) (omega arith)
    ]

-- its turn's commitment is held
next_opening : (game : Game) (q : ℕ) (fs : List TurnFrame) (s : Stream) (d : Digest) → IsSession game → q < players_of game → IsReadFrom game q fs s → (IsCommitNext game s → ⊥) →
    Some d ≡ slice_get (known_by game q fs s).digests s.resolved → next_known game q fs (known_by game q fs s) ≡ with_move (known_by game q fs s) (first_of (opening_at game q s.track d s.resolved) fs)
next_opening game q fs s d is lt shown next due =
    let commits = shown_commits game q fs s shown in
    let resolved = shown_resolved game q fs s shown in
    let facts = shown_facts game q fs s is lt shown in
    let within = facts.within in
    let there = slice_get_within (known_by game q fs s).digests s.resolved d (sym due) in
    let all = not_next game s next in
    next_reveal game q fs (known_by game q fs s) (omega arith) (omega arith)
    ∙ ap (λ (o : Option Digest). with_move (known_by game q fs s) (opened game q (known_by game q fs s).moves fs (length (known_by game q fs s).moves) o))
    (ap (slice_get (known_by game q fs s).digests) (sym resolved) ∙ sym due)
    ∙ ap (with_move (known_by game q fs s)) (sym (first_opening_at game q (known_by game q fs s).moves d fs (length (known_by game q fs s).moves)))
    ∙ ap (λ (t : Track). with_move (known_by game q fs s) (first_of (opening_at game q t d (length (known_by game q fs s).moves)) fs)) (sym (shown_track game q fs s shown))
    ∙ ap (λ n. with_move (known_by game q fs s) (first_of (opening_at game q s.track d n) fs)) (sym resolved)

pub still_due : (game : Game) (q : ℕ) (fs : List TurnFrame) (s : Stream) (d : Digest) → IsSession game → q < players_of game → IsReadFrom game q fs s → (IsCommitNext game s → ⊥) →
    Some d ≡ slice_get (known_by game q fs s).digests s.resolved → None ≡ option_map (next_track game s.track) (first_of (opening_at game q s.track d s.resolved) fs) →
    next_known game q fs (known_by game q fs s) ≡ known_by game q fs s
still_due game q fs s d is lt shown next due found = next_opening game q fs s d is lt shown next due ∙ ap (with_move (known_by game q fs s)) (map_none _ _ found)

pub there_due : (game : Game) (q : ℕ) (fs : List TurnFrame) (s : Stream) (d : Digest) (t : Track) → IsSession game → q < players_of game → IsReadFrom game q fs s → (IsCommitNext game s → ⊥) →
    Some d ≡ slice_get (known_by game q fs s).digests s.resolved → Some t ≡ option_map (next_track game s.track) (first_of (opening_at game q s.track d s.resolved) fs) →
    IsReadFrom game q fs (record { commits = s.commits; resolved = s.resolved + 1; track = t })
there_due game q fs s d t is lt shown next due found =
    let m = map_some (next_track game s.track) (first_of (opening_at game q s.track d s.resolved) fs) t found in
    shown_next game q fs s _ (with_move (known_by game q fs s) (Some m.0))
    (next_opening game q fs s d is lt shown next due ∙ ap (with_move (known_by game q fs s)) m.1) (omega arith)
    (stream_from _ _ (shown_commits game q fs s shown) (ap (λ n. n + 1) (shown_resolved game q fs s shown) ∙ sym (length-append (known_by game q fs s).moves (m.0 ∷ [])))
    (m.2 ∙ ap (λ (u : Track). next_track game u m.0) (shown_track game q fs s shown) ∙ sym (track_from_append game (start_track game q) (known_by game q fs s).moves (m.0 ∷ []))))

-- of no place nothing is known
pub stream_none : (game : Game) (q : ℕ) (fs : List TurnFrame) (t : Track) → t ≡ start_track game q →
    record { commits = 0; resolved = 0; track = t } ≡ stream_of game q (known_to game q fs 0)
unfolding known_to
stream_none game q fs t e = stream_from _ _ refl refl e

-- what is known of some places is what is known of as many as are there
known_to_there : (game : Game) (q : ℕ) (fs : List TurnFrame) (n : ℕ) → known_to game q fs n ≡ known_to game q fs (places_in (known_to game q fs n))
unfolding known_to
known_to_there game q fs zero = refl
known_to_there game q fs (suc n) = go (places_or_stuck game q fs n) (next_place_or game q fs (known_to game q fs n)) (known_to_there game q fs n)
  where
    go : (places_in (known_to game q fs n) ≡ n) ⊎ (next_known game q fs (known_to game q fs n) ≡ known_to game q fs n) →
        (places_in (next_known game q fs (known_to game q fs n)) ≡ places_in (known_to game q fs n) + 1) ⊎ (next_known game q fs (known_to game q fs n) ≡ known_to game q fs n) →
        known_to game q fs n ≡ known_to game q fs (places_in (known_to game q fs n)) →
        next_known game q fs (known_to game q fs n) ≡ known_to game q fs (places_in (next_known game q fs (known_to game q fs n)))
    go (inl all) (inl more) ih = let place : suc n ≡ places_in (next_known game q fs (known_to game q fs n)) = omega arith in ap (known_to game q fs) place
    go a (inr still) ih = still ∙ ih ∙ ap (λ (k : Known). known_to game q fs (places_in k)) (sym still)
    go (inr still) b ih = still ∙ ih ∙ ap (λ (k : Known). known_to game q fs (places_in k)) (sym still)

-- a stream of what is known of some places is read from the frames
pub read_from : (game : Game) (q n : ℕ) (fs : List TurnFrame) (s : Stream) → s ≡ stream_of game q (known_to game q fs n) → IsReadFrom game q fs s
read_from game q n fs s e =
    e ∙ ap (stream_of game q) (known_to_there game q fs n) ∙ ap (λ (r : Stream). stream_of game q (known_to game q fs (next_of r))) (sym e)

-- what the frames show of the places of a stream is what it stands for
pub read_known : (game : Game) (q n : ℕ) (fs : List TurnFrame) (s : Stream) → s ≡ stream_of game q (known_to game q fs n) → known_to game q fs (next_of s) ≡ known_to game q fs n
read_known game q n fs s e = ap (λ (x : Stream). known_to game q fs (next_of x)) e ∙ sym (known_to_there game q fs n)

-- with one place more than are known
pub read_next : (game : Game) (q n : ℕ) (fs : List TurnFrame) (s r : Stream) → s ≡ stream_of game q (known_to game q fs n) →
    r ≡ stream_of game q (next_known game q fs (known_to game q fs (next_of s))) → r ≡ stream_of game q (known_to game q fs (n + 1))
unfolding known_to
read_next game q n fs s r e f =
    let same = read_known game q n fs s e in
    let later : suc n ≡ n + 1 = omega arith in
    f ∙ ap (λ (k : Known). stream_of game q (next_known game q fs k)) same ∙ ap (λ m. stream_of game q (known_to game q fs m)) later

-- the stream with one place more is what the definition says of it
pub read_step : (game : Game) (q : ℕ) (fs : List TurnFrame) (s r : Stream) → IsReadFrom game q fs r → next_of r ≡ next_of s + 1 →
    r ≡ stream_of game q (next_known game q fs (known_to game q fs (next_of s)))
unfolding known_to
read_step game q fs s r is place = let later : next_of r ≡ suc (next_of s) = omega arith in is ∙ ap (λ n. stream_of game q (known_to game q fs n)) later

-- a stream is not longer than all turns
pub shown_short : (game : Game) (q : ℕ) (fs : List TurnFrame) (s : Stream) → IsSession game → q < players_of game → IsReadFrom game q fs s → next_of s ≤ 2 * game.turns
shown_short game q fs s is lt shown =
    let facts = shown_facts game q fs s is lt shown in
    let before = facts.before in
    let within = facts.within in
    omega arith

-- a stream whose next place is not there is all that is known
pub shown_whole : (game : Game) (me q : ℕ) (h : List Entry) (s : Stream) → IsSession game → q < players_of game → IsReadFrom game q (frames_of me q h) s →
    next_known game q (frames_of me q h) (known_by game q (frames_of me q h) s) ≡ known_by game q (frames_of me q h) s → s ≡ stream_of game q (known game me h q)
unfolding known
shown_whole game me q h s is lt shown still =
    let short = shown_short game q (frames_of me q h) s is lt shown in
    let all : 2 * game.turns - next_of s + next_of s ≡ 2 * game.turns = omega arith in
    shown ∙ ap (stream_of game q) (sym (known_to_stuck game q (frames_of me q h) (next_of s) (2 * game.turns - next_of s) still))
    ∙ ap (λ n. stream_of game q (known_to game q (frames_of me q h) n)) all

pub falls : (n a b : ℕ) → b ≡ a + 1 → b ≤ n → n - b < n - a
falls n a b e h = omega arith
