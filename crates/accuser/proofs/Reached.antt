-- Reached: a file of sealed frames is being read, and what its calls gave was taken.
use Rattle.std.proofs.Common.{◌≡◌, ℕ, ◌+◌, ◌<◌, ◌≤◌, Bool, false, List, [], ◌∷◌, ◌++◌, Option, Some, None, length, take, drop, refl, sym, ◌∙◌, ap, subst, append_assoc, append-nil, length-append, arith}
use Rattle.std.specs.Prelude.{Result, Ok, Err, if◌then◌else◌}
use Rattle.std.proofs.lemmas.Bool.{le-ltb, lt-ltb}
use Rattle.std.proofs.lemmas.List.{take-append-drop, drop_all}
use Rattle.definitions.specs.declared.limits.TheConstants.{LOG_FRONT, LONGEST_LOG}
use Rattle.definitions.specs.World.{Game}
use Rattle.station.specs.Pieces.{Piece, GivesAt, AllGive}
use Rattle.station.specs.Shelves.{ShelfState}
use Rattle.station.specs.Since.{since, since_is, since_none}
use Rattle.line_io.specs.Fronts.{Fetched, IsCall, bytes_given, bytes_read}
use Rattle.line_io.proofs.Pieces.{Fetching, Fronted, call_split, fetched_failed, fetched_some, fetching_more, fetching_none, front_more, front_none}
use Rattle.auditor.specs.Audits.{count_in}
use Rattle.log_files.specs.Taken.{IsUntaken}
use Rattle.log_files.proofs.Calls.{bytes_more}
use Rattle.sealed_files.specs.SealedFrames.{first_bad}
use Rattle.accuser.specs.declared.taker.Taker.{Taker}
use Rattle.accuser.specs.declared.taker.FrontFault.{FrontFault}
use Rattle.accuser.specs.declared.taker.FrontFault.TheVariants as front
use Rattle.accuser.specs.declared.pieces.FileFault.{FileFault}
use Rattle.accuser.specs.declared.pieces.FileFault.TheVariants as stop
use Rattle.accuser.specs.Taking.{IsOf, Leaves, bad_in}
use Rattle.accuser.specs.Feeds.{Feeding, Finishes, HasRoomFor, IsAt, IsFed, IsFinished}
use Rattle.accuser.specs.Opened.{IsAnswer, IsPiece, TakesFile, is_failed, of_front}
use Rattle.accuser.proofs.Fed.{fed_none, has_room, no_feed}
use Rattle.accuser.proofs.Taken.{leaves_all, leaves_on}

-- The file was read up to this place, by these calls, and what they gave was fed.
pub record Reached (game : Game) (roots : List (List ℕ)) (before now : ShelfState) (name : List ℕ) (t t' : Taker) (number : ℕ) (f : Feeding) (at : ℕ) : Type 0 where
  pub fetching : Fetching before now name at
  pub calls : List Piece
  pub are : since before.pieces now.pieces ≡ calls
  pub long : length (bytes_read calls) ≡ at
  pub front : (content : Option (List ℕ)) → AllGive content calls → Fronted content (bytes_read calls)
  pub few : at ≤ LONGEST_LOG
  pub fed : IsFed game roots t t' number (bytes_read calls) f
  pub untaken : count_in t.auditor number ≡ 0
  pub leaves : Leaves game t t' number

-- nothing was read yet
pub reached_none : (game : Game) (roots : List (List ℕ)) (s : ShelfState) (name : List ℕ) (t : Taker) (number : ℕ) → IsOf game t → IsUntaken t.auditor number → Reached game roots s s name t t number no_feed 0
reached_none game roots s name t number is untaken = record {
  fetching = fetching_none s name;
  calls = [];
  are = since_none s.pieces;
  long = refl;
  front = λ content h. front_none content [] refl;
  few = omega arith;
  fed = fed_none game roots number t;
  untaken = untaken.none;
  leaves = leaves_all game t number is;
}

-- so many bytes of the file came
pub reached_at : (game : Game) (roots : List (List ℕ)) (b c : ShelfState) (name : List ℕ) (t t' : Taker) (number : ℕ) (f : Feeding) (at : ℕ) → Reached game roots b c name t t' number f at → IsAt game roots t' number f at
reached_at game roots b c name t t' number f at w = record { start = t; bytes = bytes_read w.calls; fed = w.fed; long = w.long; untaken = w.untaken }

abbrev pub call_at : (name : List ℕ) → (at : ℕ) → Option (List ℕ) → Piece
call_at name at gave = record { name = name; at = at; gave = gave }

-- a content that begins with a text goes on behind it, and not where it is no longer
goes_on : (text content : List ℕ) → text ≡ take (length text) content → content ≡ text ++ drop (length text) content
goes_on text content is = sym (take-append-drop (length text) content) ∙ ap (λ (x : List ℕ). x ++ drop (length text) content) (sym is)

ends_there : (text content : List ℕ) → text ≡ take (length text) content → length content ≤ length text → content ≡ text
ends_there text content is short = goes_on text content is ∙ ap (λ (x : List ℕ). text ++ x) (drop_all (length text) content short) ∙ append-nil text

-- the fault of a file that is not too long, and of one that is
bad_short : (game : Game) (roots : List (List ℕ)) (bytes : List ℕ) → length bytes ≤ LONGEST_LOG → first_bad game roots bytes ≡ bad_in game roots bytes
unfolding first_bad
bad_short game roots bytes few = ap (λ (b : Bool). if b then Some LONGEST_LOG else bad_in game roots bytes) (le-ltb LONGEST_LOG (length bytes) few)

bad_long : (game : Game) (roots : List (List ℕ)) (bytes : List ℕ) → LONGEST_LOG < length bytes → first_bad game roots bytes ≡ Some LONGEST_LOG
unfolding first_bad
bad_long game roots bytes many = ap (λ (b : Bool). if b then Some LONGEST_LOG else bad_in game roots bytes) (lt-ltb LONGEST_LOG (length bytes) many)

-- how a file is answered, by how its bytes are
abbrev pub answered : Result (Unit {0}) FrontFault → Result (Unit {0}) FileFault
answered (Ok whole) = Ok whole
answered (Err fault) = Err (of_front fault)

not_failed : (r : Result (Unit {0}) FrontFault) → is_failed (answered r) ≡ false
not_failed (Ok whole) = refl
not_failed (Err (front.Stuck at)) = refl
not_failed (Err front.Memory) = refl

module _ (game : Game) (roots : List (List ℕ)) (s b c : ShelfState) (name : List ℕ) (t t' : Taker) (number : ℕ) (f : Feeding) (at : ℕ) (w : Reached game roots s b name t t' number f at) where
  -- one call more
  calls_now : (gave : Option (List ℕ)) → IsCall b c name at gave → since s.pieces c.pieces ≡ w.calls ++ call_at name at gave ∷ []
  calls_now gave call =
      let last : List Piece = call_at name at gave ∷ [] in
      since_is s.pieces c.pieces (w.calls ++ last)
      (ap (λ (x : ShelfState). x.pieces) call.after ∙ ap (λ (ps : List Piece). ps ++ last) w.fetching.grows ∙ append_assoc s.pieces (since s.pieces b.pieces) last ∙ ap (λ (ps : List Piece). s.pieces ++ (ps ++ last)) w.are)

  -- what it gave of a content, and what those before it gave
  given_at : (gave : Option (List ℕ)) → IsCall b c name at gave → (content : Option (List ℕ)) → AllGive content (since s.pieces c.pieces) → Fronted content (bytes_read w.calls) × GivesAt content at gave
  given_at gave call content h =
      let parts = call_split content s b c name at gave w.fetching call h in
      (w.front content (subst (AllGive content) w.are parts.0), parts.1)

  front_now : (bytes : List ℕ) → IsCall b c name at (Some bytes) → (content : Option (List ℕ)) → AllGive content (since s.pieces c.pieces) → Fronted content (bytes_read w.calls ++ bytes)
  front_now bytes call content h =
      let there = given_at (Some bytes) call content h in
      front_more content (bytes_read w.calls) bytes (bytes_read w.calls ++ bytes) there.0 (subst (λ (n : ℕ). GivesAt content n (Some bytes)) (sym w.long) there.1) refl

  read_now : (gave : Option (List ℕ)) → bytes_read (w.calls ++ call_at name at gave ∷ []) ≡ bytes_read w.calls ++ bytes_given gave
  read_now gave = bytes_more w.calls (call_at name at gave)

  long_now : (gave : Option (List ℕ)) → length (bytes_read (w.calls ++ call_at name at gave ∷ [])) ≡ at + length (bytes_given gave)
  long_now gave = ap (λ (x : List ℕ). length x) (read_now gave) ∙ length-append (bytes_read w.calls) (bytes_given gave) ∙ ap (λ n. n + length (bytes_given gave)) w.long

  -- no further than a byte past the longest file was read
  short_now : (gave : Option (List ℕ)) → IsCall b c name at gave → at + length (bytes_given gave) ≤ LOG_FRONT → length (bytes_read (since s.pieces c.pieces)) ≤ LOG_FRONT
  short_now gave call few =
      let long = ap (λ (ps : List Piece). length (bytes_read ps)) (calls_now gave call) ∙ long_now gave in
      omega (arith, long, few)

  -- the bytes that it gave were fed
  pub reached_more : (t'' : Taker) (g : Feeding) (count : ℕ) → IsPiece game roots b c name t' t'' number f g at (Ok (Some count)) → Leaves game t' t'' number → Reached game roots s c name t t'' number g (at + count)
  reached_more t'' g count p leaves =
      let bytes : List ℕ = p.0 in
      let count_is : count ≡ length bytes = p.3 in
      let place : at + length bytes ≡ at + count = ap (λ n. at + n) (sym count_is) in
      let are = calls_now (Some bytes) p.1 in
      record {
        fetching = subst (λ (n : ℕ). Fetching s c name n) place (fetching_more s b c name at bytes w.fetching p.1 (subst (λ (n : ℕ). 0 < n) count_is p.2));
        calls = w.calls ++ call_at name at (Some bytes) ∷ [];
        are = are;
        long = long_now (Some bytes) ∙ place;
        front = λ content h. subst (Fronted content) (sym (read_now (Some bytes))) (front_now bytes p.1 content (subst (AllGive content) (sym are) h));
        few = p.4;
        fed = subst (λ (xs : List ℕ). IsFed game roots t t'' number xs g) (sym (read_now (Some bytes))) (p.5 t (bytes_read w.calls) w.fed);
        untaken = w.untaken;
        leaves = leaves_on game t t' t'' number w.leaves leaves;
      }

  -- the file has ended, and this is answered of what it gave
  whole_answer : (t'' : Taker) (content : Option (List ℕ)) (r : Result (Unit {0}) FrontFault) → Fronted content (bytes_read w.calls) → GivesAt content at (Some []) →
      IsFinished game roots t t'' number (bytes_read w.calls) r → IsAnswer game roots t t'' number content (answered r)
  whole_answer t'' None r fronted gives is = absurd gives
  whole_answer t'' (Some all) r fronted gives is =
      let text : List ℕ = bytes_read w.calls in
      let long : length text ≡ at = w.long in
      let few : at ≤ LONGEST_LOG = w.few in
      let no_more : length all ≤ at = gives.1 refl in
      let same : all ≡ text = ends_there text all fronted (omega (arith, long, no_more)) in
      so r (subst (λ (xs : List ℕ). IsFinished game roots t t'' number xs r) (sym same) is) (bad_short game roots all (omega (arith, no_more, few)))
    where
      so : (r : Result (Unit {0}) FrontFault) → IsFinished game roots t t'' number all r → first_bad game roots all ≡ bad_in game roots all → IsAnswer game roots t t'' number (Some all) (answered r)
      so (Ok whole) is e = record { sound = e ∙ is.sound; taken = is.taken }
      so (Err (front.Stuck place)) is e = e ∙ is
      so (Err front.Memory) is e = tt

  -- what comes of the file was fed before it was found to have ended
  fed_before : (v : Taker) (g : Feeding) → v ≡ t' → g ≡ f → IsFed game roots t v number (bytes_read w.calls) g
  fed_before v g same_taker same_feed =
      subst (λ (x : Taker). IsFed game roots t x number (bytes_read w.calls) g) (sym same_taker)
      (subst (IsFed game roots t t' number (bytes_read w.calls)) (sym same_feed) w.fed)

  pub room_end : (v : Taker) (g : Feeding) → IsPiece game roots b c name t' v number f g at (Ok None) → HasRoomFor v number g 0
  room_end v g p =
      let few = w.few in
      has_room game roots number v g at 0 (record { start = t; bytes = bytes_read w.calls; fed = fed_before v g p.1 p.2; long = w.long; untaken = w.untaken }) (omega (arith, few))

  pub ended : (v t'' : Taker) (g : Feeding) (r : Result (Unit {0}) FrontFault) → IsPiece game roots b c name t' v number f g at (Ok None) → Finishes game roots v t'' number g r →
      Leaves game v t'' number → TakesFile game roots s c name t t'' number (answered r)
  ended v t'' g r p finishes leaves = record {
    fetched = subst (Fetched s c name) (sym (not_failed r)) (fetched_some s b c name at [] w.fetching p.0);
    short = let few = w.few in short_now (Some []) p.0 (omega (arith, few));
    answer = λ content h.
        let there = given_at (Some []) p.0 content h in
        whole_answer t'' content r there.0 there.1 (finishes t (bytes_read w.calls) (fed_before v g p.1 p.2));
    leaves = leaves_on game t t' t'' number w.leaves (subst (λ (x : Taker). Leaves game x t'' number) p.1 leaves);
  }

  -- the file is too long
  long_answer : (t'' : Taker) (content : Option (List ℕ)) (bytes : List ℕ) → GivesAt content at (Some bytes) → Fronted content (bytes_read w.calls ++ bytes) → LONGEST_LOG < at + length bytes →
      IsAnswer game roots t t'' number content (Err (stop.Bad LONGEST_LOG))
  long_answer t'' None bytes gives more many = absurd gives
  long_answer t'' (Some all) bytes gives more many =
      let text : List ℕ = bytes_read w.calls ++ bytes in
      let is = ap (λ (x : List ℕ). length x) (goes_on text all more) ∙ length-append text (drop (length text) all) in
      let now = length-append (bytes_read w.calls) bytes ∙ ap (λ n. n + length bytes) w.long in
      bad_long game roots all (omega (arith, is, now, many))

  -- reading stopped there, for whatever cause
  pub stopped_at : (t'' : Taker) (g : Feeding) (x : FileFault) → IsPiece game roots b c name t' t'' number f g at (Err x) → Leaves game t' t'' number → TakesFile game roots s c name t t'' number (Err x)
  stopped_at t'' g (stop.Bad place) p leaves = record {
    fetched = fetched_some s b c name at p.0 w.fetching p.1;
    short = short_now (Some p.0) p.1 p.3;
    answer = λ content h.
        let there = given_at (Some p.0) p.1 content h in
        subst (λ (n : ℕ). IsAnswer game roots t t'' number content (Err (stop.Bad n))) (sym p.4) (long_answer t'' content p.0 there.1 (front_now p.0 p.1 content h) p.2);
    leaves = leaves_on game t t' t'' number w.leaves leaves;
  }
  stopped_at t'' g stop.Failed p leaves = record {
    fetched = fetched_failed s b c name at w.fetching p;
    short = let few = w.few in short_now None p (omega (arith, few));
    answer = λ content h. tt;
    leaves = leaves_on game t t' t'' number w.leaves leaves;
  }
  stopped_at t'' g stop.Memory p leaves = record {
    fetched = fetched_some s b c name at p.0 w.fetching p.1;
    short = let few = p.2 in short_now (Some p.0) p.1 (omega (arith, few));
    answer = λ content h. tt;
    leaves = leaves_on game t t' t'' number w.leaves leaves;
  }
