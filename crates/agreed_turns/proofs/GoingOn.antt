-- GoingOn: a stream that is read on, and the moves that are noted.
use Rattle.std.proofs.Common.{List, None, Option, Some, [], ap, append_assoc, arith, inl, inr, length, length-append, refl, subst, suc, sym, ℕ, ◌+◌, ◌++◌, ◌<◌, ◌∙◌, ◌∷◌, ◌≡◌, ◌≤◌}
use Rattle.std.specs.Prelude.{min, option_map, slice_get}
use Rattle.std.proofs.lemmas.Bool.{cases_lt}
use Rattle.std.proofs.lemmas.Option.{none-some, some_pair_parts}
use Rattle.definitions.specs.declared.frames.TurnFrame.{TurnFrame}
use Rattle.definitions.specs.declared.logs.Entry.{Entry}
use Rattle.definitions.specs.declared.openings.Digest.{Digest}
use Rattle.definitions.specs.declared.world.Move.{Move}
use Rattle.definitions.specs.declared.world.Track.{Track}
use Rattle.definitions.specs.Held.{Known, first_commit, known_to, next_known, opened, with_commit, with_move}
use Rattle.definitions.specs.Lists.{first_of}
use Rattle.definitions.specs.Logs.{got_of}
use Rattle.definitions.specs.Moves.{next_track}
use Rattle.definitions.specs.World.{Game, players_of}
use Rattle.definition_laws.proofs.Knowing.{next_commit, next_end, next_reveal}
use Rattle.definition_laws.proofs.Listing.{append_nil}
use Rattle.grid_world.specs.Sessions.{IsSession}
use Rattle.grid_world.specs.declared.streams.Stream.{Stream}
use Rattle.grid_world.specs.Streams.{next_of, slot_next}
use Rattle.grid_world.proofs.NextSlots as slots
use Rattle.frame_index.specs.Frames.{IndexState, IsIndex}
use Rattle.frame_index.specs.OfLog.{with_track}
use Rattle.frame_index.specs.Openings.{opening_at}
use Rattle.frame_index.specs.Streams.{IsCommitNext, IsReadFrom}
use Rattle.frame_index.proofs.Headed.{held_before}
use Rattle.frame_index.proofs.Opened.{first_opening_at}
use Rattle.frame_index.proofs.StreamsShown.{still_commit, still_due, still_none, there_commit, there_due}
use Rattle.agreed_turns.specs.declared.accords.Accord.{Accord}
use Rattle.agreed_turns.specs.Accords.{note_at, noted_from}
use Rattle.agreed_turns.specs.Heads.{GoesOn, IsRevealNext, Shows, Steps, moves_to}

noted_append : (all : List Accord) (t : ℕ) (ms ns : List Move) → noted_from all t (ms ++ ns) ≡ noted_from (noted_from all t ms) (t + length ms) ns
noted_append all t [] ns = let e : t ≡ t + 0 = omega arith in ap (λ n. noted_from all n ns) e
noted_append all t (m ∷ ms) ns = let e : t + 1 + length ms ≡ t + suc (length ms) = omega arith in
    noted_append (note_at all t m) (t + 1) ms ns ∙ ap (λ n. noted_from (noted_from (note_at all t m) (t + 1) ms) n ns) e

-- what the index says of one log holds of the frames that this shows
pub shown_by : {game : Game} {index : IndexState} {i q : ℕ} {fs : List TurnFrame} (P : List TurnFrame → Type 0) → Shows game index i q fs →
    ((logs : List (List Entry)) (h : List Entry) → IsIndex game logs index → slice_get logs i ≡ Some h → P (got_of q h)) → P fs
shown_by P shows all = subst P shows.frames (all shows.logs shows.log shows.stands shows.there)

module _ (game : Game) (q : ℕ) (fs : List TurnFrame) where
  -- how many moves there are
  moves_many : (s : Stream) → IsReadFrom game q fs s → s.resolved ≡ length (moves_to game q fs s)
  moves_many s read = ap (λ (r : Stream). r.resolved) read

  -- nothing more is read
  pub goes_nowhere : (s : Stream) (all : List Accord) → IsReadFrom game q fs s → GoesOn game q fs s s all all
  goes_nowhere s all read = record { read = read; moves = []; grown = sym (append_nil (moves_to game q fs s)); noted = refl }

  -- from a stream to a later one, and further
  pub goes_further : (s r u : Stream) (old mid new : List Accord) → IsReadFrom game q fs s → GoesOn game q fs s r old mid → GoesOn game q fs r u mid new → GoesOn game q fs s u old new
  goes_further s r u old mid new read a b =
      let here = moves_many s read in
      let there = moves_many r a.read in
      let grown = ap length a.grown in
      let more = length-append (moves_to game q fs s) a.moves in
      let place : r.resolved ≡ s.resolved + length a.moves = omega arith in
      record {
        read = b.read;
        moves = a.moves ++ b.moves;
        grown = b.grown ∙ ap (λ (ms : List Move). ms ++ b.moves) a.grown ∙ append_assoc (moves_to game q fs s) a.moves b.moves;
        noted = b.noted ∙ ap (λ (all : List Accord). noted_from all r.resolved b.moves) a.noted ∙ ap (λ n. noted_from (noted_from old s.resolved a.moves) n b.moves) place
            ∙ sym (noted_append old s.resolved a.moves b.moves);
      }

  -- with one place more
  later : (s r : Stream) → next_of r ≡ next_of s + 1 → known_to game q fs (next_of r) ≡ next_known game q fs (known_to game q fs (next_of s))
  unfolding known_to
  later s r place = let e : next_of r ≡ suc (next_of s) = omega arith in ap (known_to game q fs) e

  pub commit_goes : (s : Stream) (all : List Accord) (d : Digest) → IsReadFrom game q fs s → IsCommitNext game s → Some d ≡ first_commit fs s.commits →
      GoesOn game q fs s (record { commits = s.commits + 1; resolved = s.resolved; track = s.track }) all all
  commit_goes s all d read next found =
      let r : Stream = record { commits = s.commits + 1; resolved = s.resolved; track = s.track } in
      let k = known_to game q fs (next_of s) in
      let commits = ap (λ (x : Stream). x.commits) read in
      let resolved = ap (λ (x : Stream). x.resolved) read in
      let known = later s r (omega arith) ∙ next_commit game q fs k (omega arith) ∙ ap (with_commit k) (ap (first_commit fs) (sym commits) ∙ sym found) in
      record {
        read = there_commit game q fs s d read next found;
        moves = [];
        grown = ap (λ (x : Known). x.moves) known ∙ sym (append_nil (moves_to game q fs s));
        noted = refl;
      }

  -- the index has no commitment at the next place
  pub no_commitment : (s : Stream) (all : List Accord) → IsReadFrom game q fs s → IsCommitNext game s → None ≡ first_commit fs s.commits → Steps game q fs s None all all
  no_commitment s all read next found = (still_commit game q fs s read next found, refl)

  module _ (s : Stream) (is : IsSession game) (player : q < players_of game) (read : IsReadFrom game q fs s) (next : IsRevealNext game s) where
    -- no commitment of the turn that is resolved next
    pub no_digest : (all : List Accord) → None ≡ first_commit fs s.resolved → Steps game q fs s None all all
    no_digest all found = (still_none game q fs s read next.other (found ∙ held_before game q fs s is read next.turn next.other), refl)

    module _ (d : Digest) (found : Some d ≡ first_commit fs s.resolved) where
      due : Some d ≡ slice_get (known_to game q fs (next_of s)).digests s.resolved
      due = found ∙ held_before game q fs s is read next.turn next.other

      not_mapped : (o : Option Move) → None ≡ option_map (with_track game s.track) o → None ≡ option_map (next_track game s.track) o
      not_mapped None e = refl
      not_mapped (Some m) e = absurd (none-some _ e)

      -- nothing opens it by a legal move
      pub no_opening : (all : List Accord) → None ≡ option_map (with_track game s.track) (first_of (opening_at game q s.track d s.resolved) fs) → Steps game q fs s None all all
      no_opening all none =
          (still_due game q fs s d is player read next.other due (not_mapped (first_of (opening_at game q s.track d s.resolved) fs) none), refl)

      mapped : (o : Option Move) (m : Move) (t : Track) → Some (m, t) ≡ option_map (with_track game s.track) o → (o ≡ Some m) × (t ≡ next_track game s.track m)
      mapped None m t e = absurd (none-some _ (sym e))
      mapped (Some n) m t e =
          let parts = some_pair_parts m n t (next_track game s.track n) e in
          (ap (λ (x : Move). Some x) (sym parts.0), parts.1 ∙ ap (next_track game s.track) (sym parts.0))

      abbrev K : Known
      K = known_to game q fs (next_of s)

      -- the move that opens it is noted
      pub reveal_goes : (all : List Accord) (m : Move) (t : Track) → Some (m, t) ≡ option_map (with_track game s.track) (first_of (opening_at game q s.track d s.resolved) fs) →
          GoesOn game q fs s (record { commits = s.commits; resolved = s.resolved + 1; track = t }) all (note_at all s.resolved m)
      reveal_goes all m t some =
          let r : Stream = record { commits = s.commits; resolved = s.resolved + 1; track = t } in
          let opens = mapped (first_of (opening_at game q s.track d s.resolved) fs) m t some in
          let commits = ap (λ (x : Stream). x.commits) read in
          let resolved = ap (λ (x : Stream). x.resolved) read in
          let track = ap (λ (x : Stream). x.track) read in
          let turn = next.turn in
          let front : min (s.resolved + game.ahead) game.turns ≤ s.commits = elim (cases_lt s.commits (min (s.resolved + game.ahead) game.turns)) [
            | inl lt ↦ absurd (next.other lt)
            | inr le ↦ le
          ] in
          let known = later s r (omega arith)
          ∙ next_reveal game q fs K (omega arith) (omega arith)
          ∙ ap (λ (o : Option Digest). with_move K (opened game q K.moves fs (length K.moves) o)) (ap (slice_get K.digests) (sym resolved) ∙ sym due)
          ∙ ap (with_move K) (sym (first_opening_at game q K.moves d fs (length K.moves)))
          ∙ ap (λ (x : Track). with_move K (first_of (opening_at game q x d (length K.moves)) fs)) (sym track)
          ∙ ap (λ n. with_move K (first_of (opening_at game q s.track d n) fs)) (sym resolved)
          ∙ ap (with_move K) opens.0 in
          record {
            read = there_due game q fs s d t is player read next.other due (ap (λ (x : Track). Some x) opens.1 ∙ sym (ap (option_map (next_track game s.track)) opens.0));
            moves = m ∷ [];
            grown = ap (λ (x : Known). x.moves) known;
            noted = refl;
          }

  -- no place is left
  pub no_slot : (s : Stream) (all : List Accord) → IsReadFrom game q fs s → None ≡ slot_next game s → Steps game q fs s None all all
  no_slot s all read none =
      let commits = ap (λ (x : Stream). x.commits) read in
      let resolved = ap (λ (x : Stream). x.resolved) read in (
        elim (cases_lt s.commits (min (s.resolved + game.ahead) game.turns)) [
          | inl lt ↦ absurd (none-some _ (none ∙ sym (slots.next_commit game s lt)))
          | inr le ↦ elim (cases_lt s.resolved game.turns) [
            | inl lt ↦ absurd (none-some _ (none ∙ sym (slots.next_reveal game s le lt)))
            | inr end ↦ next_end game q fs (known_to game q fs (next_of s)) (omega arith) (omega arith)
          ]
        ],
        refl,
      )
