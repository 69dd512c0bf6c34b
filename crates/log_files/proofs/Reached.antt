-- Reached: a log's file is being read, and what its calls gave was taken.
use Rattle.std.proofs.Common.{◌≡◌, ℕ, ◌+◌, ◌<◌, ◌≤◌, List, [], ◌∷◌, ◌++◌, Option, Some, length, refl, sym, ◌∙◌, ap, subst, append_assoc, length-append, arith}
use Rattle.std.specs.Prelude.{Ok}
use Rattle.definitions.specs.declared.limits.TheConstants.{LONGEST_LOG}
use Rattle.definitions.specs.declared.logs.Entry.{Entry}
use Rattle.definitions.specs.World.{Game}
use Rattle.station.specs.Pieces.{Piece, GivesAt, AllGive}
use Rattle.station.specs.Shelves.{ShelfState}
use Rattle.station.specs.Since.{since, since_is, since_none}
use Rattle.line_io.specs.Fronts.{IsCall, bytes_given, bytes_read}
use Rattle.line_io.proofs.Pieces.{Fetching, Fronted, all_split, call_split, fetching_more, fetching_none, front_more, front_none}
use Rattle.session_log.specs.Fed.{Fed, IsFeedOf}
use Rattle.session_log.specs.Feeding.{LogFeeding, feed_at_start, given_of}
use Rattle.auditor.specs.Audits.{AuditState, count_in, owner_in}
use Rattle.auditor.specs.Taking.{IsFeeding, LeavesOthers, Takes, TakesAll}
use Rattle.auditor.proofs.Fed.{takes_more}
use Rattle.log_files.specs.Pieces.{TakesPiece}
use Rattle.log_files.specs.Taken.{IsUntaken}
use Rattle.log_files.proofs.Calls.{bytes_more, calls_entries, calls_feeding, given_by_calls}

-- The file was read up to this place, by these calls, and all that they gave was taken.
pub record Reached (game : Game) (before now : ShelfState) (name : List ℕ) (a a' : AuditState) (log : ℕ) (r : Fed) (at : ℕ) : Type 0 where
  pub fetching : Fetching before now name at
  pub calls : List Piece
  pub are : since before.pieces now.pieces ≡ calls
  pub long : length (bytes_read calls) ≡ at
  pub front : (content : Option (List ℕ)) → AllGive content calls → Fronted content (bytes_read calls)
  pub few : at ≤ LONGEST_LOG
  pub used : r.used ≤ at
  pub session : a'.session ≡ game
  pub same : a'.session ≡ a.session
  pub feeding : IsFeeding a' log r
  pub feed : IsFeedOf r (given_by_calls game calls).feeding
  pub taken : Takes a a' log (given_by_calls game calls).entries
  pub owner : owner_in a' log ≡ r.owner
  pub others : LeavesOthers a a' log

-- nothing was read yet
pub reached_none : (game : Game) (s : ShelfState) (name : List ℕ) (a : AuditState) (log : ℕ) (r : Fed) → a.session ≡ game → IsUntaken a log → IsFeedOf r (feed_at_start game.id) → r.used ≡ 0 → Reached game s s name a a log r 0
reached_none game s name a log r session untaken feed used = record {
  fetching = fetching_none s name;
  calls = [];
  are = since_none s.pieces;
  long = refl;
  front = λ content h. front_none content [] refl;
  few = omega arith;
  used = omega arith;
  session = session;
  same = refl;
  feeding = record { stands = (feed_at_start game.id, feed); counted = let none = untaken.none in omega arith };
  feed = feed;
  taken = λ game logs w. w;
  owner = untaken.unowned ∙ sym feed.owner;
  others = λ i ne. (refl, refl);
}

-- one call more
abbrev pub call_at : (name : List ℕ) → (at : ℕ) → Option (List ℕ) → Piece
call_at name at gave = record { name = name; at = at; gave = gave }

pub calls_now : (game : Game) (s b c : ShelfState) (name : List ℕ) (a a' : AuditState) (log : ℕ) (r : Fed) (at : ℕ) (gave : Option (List ℕ)) (w : Reached game s b name a a' log r at) → IsCall b c name at gave →
    since s.pieces c.pieces ≡ w.calls ++ call_at name at gave ∷ []
calls_now game s b c name a a' log r at gave w call =
    let last : List Piece = call_at name at gave ∷ [] in
    since_is s.pieces c.pieces (w.calls ++ last)
    (ap (λ (x : ShelfState). x.pieces) call.after ∙ ap (λ (ps : List Piece). ps ++ last) w.fetching.grows ∙ append_assoc s.pieces (since s.pieces b.pieces) last ∙ ap (λ (ps : List Piece). s.pieces ++ (ps ++ last)) w.are)

-- what it gave of a content, and what those before it gave
pub given_at : (game : Game) (s b c : ShelfState) (name : List ℕ) (a a' : AuditState) (log : ℕ) (r : Fed) (at : ℕ) (gave : Option (List ℕ)) (w : Reached game s b name a a' log r at) → IsCall b c name at gave →
    (content : Option (List ℕ)) → AllGive content (since s.pieces c.pieces) → Fronted content (bytes_read w.calls) × GivesAt content at gave
given_at game s b c name a a' log r at gave w call content h =
    let parts = call_split content s b c name at gave w.fetching call h in
    (w.front content (subst (AllGive content) w.are parts.0), parts.1)

front_at : (content : Option (List ℕ)) (text bytes items : List ℕ) (at : ℕ) → length text ≡ at → Fronted content text → GivesAt content at (Some bytes) → items ≡ text ++ bytes → Fronted content items
front_at content text bytes items at long front gives is = front_more content text bytes items front (subst (λ (n : ℕ). GivesAt content n (Some bytes)) (sym long) gives) is

-- where it gave bytes
pub front_now : (game : Game) (s b c : ShelfState) (name : List ℕ) (a a' : AuditState) (log : ℕ) (r : Fed) (at : ℕ) (bytes : List ℕ) (w : Reached game s b name a a' log r at) → IsCall b c name at (Some bytes) →
    (content : Option (List ℕ)) → AllGive content (since s.pieces c.pieces) → Fronted content (bytes_read (w.calls ++ call_at name at (Some bytes) ∷ []))
front_now game s b c name a a' log r at bytes w call content h =
    let there = given_at game s b c name a a' log r at (Some bytes) w call content h in
    front_at content (bytes_read w.calls) bytes (bytes_read (w.calls ++ call_at name at (Some bytes) ∷ [])) at w.long there.0 there.1 (bytes_more w.calls (call_at name at (Some bytes)))

pub long_now : (game : Game) (s b : ShelfState) (name : List ℕ) (a a' : AuditState) (log : ℕ) (r : Fed) (at : ℕ) (gave : Option (List ℕ)) (w : Reached game s b name a a' log r at) →
    length (bytes_read (w.calls ++ call_at name at gave ∷ [])) ≡ at + length (bytes_given gave)
long_now game s b name a a' log r at gave w =
    ap (λ (x : List ℕ). length x) (bytes_more w.calls (call_at name at gave)) ∙ length-append (bytes_read w.calls) (bytes_given gave) ∙ ap (λ n. n + length (bytes_given gave)) w.long

-- others are left alone by one and then by another
pub others_on : (a b c : AuditState) (log : ℕ) → LeavesOthers a b log → LeavesOthers b c log → LeavesOthers a c log
others_on a b c log one two = λ i ne. let x = one i ne in let y = two i ne in (y.0 ∙ x.0, y.1 ∙ x.1)

-- the bytes that it gave were taken
pub reached_more : (game : Game) (s b c : ShelfState) (name : List ℕ) (a a' a'' : AuditState) (log : ℕ) (r r' : Fed) (at count : ℕ) → Reached game s b name a a' log r at →
    TakesPiece b c name a' a'' log r r' at (Ok (Some count)) → a''.session ≡ a'.session → LeavesOthers a' a'' log → Reached game s c name a a'' log r' (at + count)
reached_more game s b c name a a' a'' log r r' at count w t same others =
    let bytes : List ℕ = t.0 in
    let p : Piece = call_at name at (Some bytes) in
    let f : LogFeeding = (given_by_calls game w.calls).feeding in
    let count_is : count ≡ length bytes = t.3 in
    let fed = t.5 in
    let all : TakesAll game a' a'' log r r' bytes f = subst (λ (g : Game). TakesAll g a' a'' log r r' bytes f) w.session (fed.all f w.feed) in
    let place : at + length bytes ≡ at + count = ap (λ n. at + n) (sym count_is) in
    let are = calls_now game s b c name a a' log r at (Some bytes) w t.1 in
    record {
      fetching = subst (λ (n : ℕ). Fetching s c name n) place (fetching_more s b c name at bytes w.fetching t.1 (subst (λ (n : ℕ). 0 < n) count_is t.2));
      calls = w.calls ++ p ∷ [];
      are = are;
      long = long_now game s b name a a' log r at (Some bytes) w ∙ place;
      front = λ content h. front_now game s b c name a a' log r at bytes w t.1 content (subst (AllGive content) (sym are) h);
      few = t.4;
      used = let before = w.used in let now = fed.used in omega arith;
      session = same ∙ w.session;
      same = same ∙ w.same;
      feeding = fed.feeding;
      feed = subst (λ (g : LogFeeding). IsFeedOf r' g) (sym (calls_feeding game w.calls p)) all.feed;
      taken = subst (λ (es : List Entry). Takes a a'' log es) (sym (calls_entries game w.calls p)) (takes_more a a' a'' log (given_by_calls game w.calls).entries (given_of game f bytes).entries w.taken all.taken);
      owner = fed.owner;
      others = others_on a a' a'' log w.others others;
    }
