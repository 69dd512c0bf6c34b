-- Pieces: a log is read alike however its bytes are cut.
use Rattle.std.proofs.Common.{◌≡◌, ◌≤◌, ℕ, zero, suc, ◌+◌, ◌-◌, ◌<◌, Bool, true, false, List, [], ◌∷◌, ◌++◌, length, drop, refl, sym, ◌∙◌, ap, arith, subst, length-append, append_assoc, inl, inr}
use Rattle.std.specs.Prelude.{Option, Some, None, Ok, Err, flat_map, nat_lt, if◌then◌else◌}
use Rattle.std.proofs.lemmas.Bool.{cases_lt, le-ltb, lt-ltb, ltb-true}
use Rattle.std.proofs.lemmas.List.{length-drop, drop-append-le, append-nil}
use Rattle.std.proofs.Math.Seq.{drop-append-add}
use Rattle.definitions.specs.declared.logs.Entry.{Entry}
use Rattle.session_log.specs.declared.faults.LogFault.{LogFault}
use Rattle.definitions.specs.declared.logs.LogWhy.TheVariants.{BadEntry}
use Rattle.definitions.specs.World.{Game, players_of}
use Rattle.session_log.specs.declared.finding.Found.{Found}
use Rattle.session_log.specs.declared.finding.Found.TheVariants as found
use Rattle.session_log.specs.Entries.{told_len}
use Rattle.session_log.specs.Fed.{Fed, IsFeedOf, IsGivenFirst}
use Rattle.session_log.specs.Finding.{is_torn, entry_at}
use Rattle.session_log.specs.Feeding.{FeedAnswer, LogFeeding, FeedStep, LogGiven, feed_at_start, feed_of, entry_fed, fault_step, fed_step, finished, first_fed, given_by, given_of, given_on, given_over, one_more, step_by_found}
use Rattle.session_log.specs.Laws.{IsReadOf, owner_in}
use Rattle.session_log.specs.Reading.{Ending, Answer, fault_at}
use Rattle.session_log.proofs.Found.{found_count, found_more, found_torn, torn_found}
use Rattle.session_log.proofs.Parts.{part_torn}
use Rattle.session_log.proofs.Unread.{Unread, log_reads, none_but, unread, unread_is, unread_log, unread_owner, with_entry}

-- ---- a log so far: what is read of it if these bytes follow

record IsFeeding (f : LogFeeding) : Type 0 where
  torn : f.fault ≡ None → is_torn f.held ≡ true
  begun : f.owner ≡ None → f.held ≡ []

abbrev unread_owned : Game → Option ℕ → LogFeeding → List ℕ → Unread
unread_owned game None f bytes = unread_log game f.at f.chain bytes
unread_owned game (Some me) f bytes = unread game me f.at f.chain (f.held ++ bytes)

abbrev unread_unless : Option LogFault → Option ℕ → Unread → Unread
unread_unless None owner u = u
unread_unless (Some x) owner u = none_but (Err x) owner

abbrev unread_on : Game → LogFeeding → List ℕ → Unread
unread_on game f bytes = unread_unless f.fault f.owner (unread_owned game f.owner f bytes)

abbrev with_entries : List Entry → Unread → Unread
with_entries es u = record { entries = es ++ u.entries; last = u.last; owner = u.owner }

-- what a step gives: all, behind its entry if it found one
abbrev GivesAll : Answer → (before still left : Unread) → Type 0
GivesAll (Ok None) before still left = before ≡ still
GivesAll (Ok (Some e)) before still left = before ≡ with_entry e left
GivesAll (Err fault) before still left = before ≡ still

-- a step uses some bytes where it finds an entry, and no more than there are
abbrev UsesSome : Answer → ℕ → Type 0
UsesSome (Ok None) used = Unit {0}
UsesSome (Ok (Some e)) used = 0 < used
UsesSome (Err fault) used = Unit {0}

record IsFed (game : Game) (f : LogFeeding) (piece rest : List ℕ) (s : FeedStep) : Type 0 where
  feeding : IsFeeding s.feeding
  within : s.fed.used ≤ length piece
  some : UsesSome s.fed.what s.fed.used
  all : GivesAll s.fed.what (unread_on game f (piece ++ rest)) (unread_on game s.feeding rest) (unread_on game s.feeding (drop s.fed.used piece ++ rest))

abbrev going : (me at : ℕ) → (chain held : List ℕ) → LogFeeding
going me at chain held = record { owner = Some me; at = at; chain = chain; held = held; fault = None }

none_owned : (me : ℕ) → Some me ≡ None → ⊥
none_owned me h = cc

no_fault : (x : LogFault) → Some x ≡ None → ⊥
no_fault x h = cc

faulty : (me at : ℕ) (chain : List ℕ) (x : LogFault) → IsFeeding (record { owner = Some me; at = at; chain = chain; held = []; fault = Some x })
faulty me at chain x = record { torn = λ h. absurd (no_fault x h); begun = λ h. refl }

nothing_held : (me at : ℕ) (chain : List ℕ) → IsFeeding (going me at chain [])
nothing_held me at chain = record { torn = λ h. refl; begun = λ h. refl }

-- the bytes that are there with an entry's last one
record IsThere (game : Game) (me : ℕ) (chain held piece rest : List ℕ) (x : Found) : Type 0 where
  same : entry_at game me chain (held ++ (piece ++ rest)) ≡ x
  above : length held < told_len (held ++ piece) + 35
  below : told_len (held ++ piece) + 35 ≤ length held + length piece

entry_there : (game : Game) (me : ℕ) (chain held piece rest : List ℕ) (x : Found) → is_torn held ≡ true → entry_at game me chain (held ++ piece) ≡ x → (x ≡ found.Torn → ⊥) → IsThere game me chain held piece rest x
entry_there game me chain held piece rest x torn is other =
    let both = length-append held piece in
    let whole : told_len (held ++ piece) + 35 ≤ length (held ++ piece) = elim (cases_lt (length (held ++ piece)) (told_len (held ++ piece) + 35)) [
      | inl lt ↦ absurd (other (sym is ∙ found_torn game me chain (held ++ piece) (lt-ltb _ _ lt)))
      | inr ge ↦ ge
    ] in
    let few : length held < told_len held + 35 = ltb-true _ _ torn in
    record {
      same = ap (entry_at game me chain) (sym (append_assoc held piece rest)) ∙ found_more game me chain (held ++ piece) rest (le-ltb _ _ whole) ∙ is;
      above = held_below held piece few;
      below = omega arith;
    }
  where
    held_below : (held piece : List ℕ) → length held < told_len held + 35 → length held < told_len (held ++ piece) + 35
    held_below [] piece few = omega arith
    held_below (a ∷ []) piece few = omega arith
    held_below (a ∷ b ∷ held) piece few = few

fed_found : (x : Found) (game : Game) (me at : ℕ) (chain held piece rest : List ℕ) → is_torn held ≡ true → entry_at game me chain (held ++ piece) ≡ x →
    IsFed game (going me at chain held) piece rest (step_by_found (going me at chain held) piece (told_len (held ++ piece) + 35) x)
fed_found found.Torn game me at chain held piece rest torn is = record {
  feeding = record { torn = λ h. torn_found game me chain (held ++ piece) is; begun = λ h. absurd (none_owned me h) };
  within = omega arith;
  some = tt;
  all = ap (unread game me at chain) (sym (append_assoc held piece rest));
}
fed_found (found.Bad why) game me at chain held piece rest torn is =
    let there = entry_there game me chain held piece rest (found.Bad why) torn is (λ h. cc) in
    let below = there.below in
    record { feeding = faulty me at chain (fault_at at why); within = omega arith; some = tt; all = unread_is (found.Bad why) game me at chain (held ++ (piece ++ rest)) there.same }
fed_found (found.Whole e n digest) game me at chain held piece rest torn is =
    let there = entry_there game me chain held piece rest (found.Whole e n digest) torn is (λ h. cc) in
    let count = (found_count game me chain (held ++ piece) e n digest is).0 in
    let above = there.above in let below = there.below in
    let used : ℕ = n - length held in
    let all : length held + used ≡ n = omega arith in
    let back : drop n (held ++ (piece ++ rest)) ≡ drop used piece ++ rest
    = ap (λ m. drop m (held ++ (piece ++ rest))) (sym all) ∙ drop-append-add held (piece ++ rest) used ∙ drop-append-le used piece rest (omega arith) in
    record {
      feeding = nothing_held me (at + n) digest;
      within = omega arith;
      some = omega arith;
      all = unread_is (found.Whole e n digest) game me at chain (held ++ (piece ++ rest)) there.same ∙ ap (λ xs. with_entry e (unread game me (at + n) digest xs)) back;
    }

fed_entry : (game : Game) (me at : ℕ) (chain held piece rest : List ℕ) → is_torn held ≡ true → IsFed game (going me at chain held) piece rest (entry_fed game me (going me at chain held) piece)
fed_entry game me at chain held piece rest torn = fed_found (entry_at game me chain (held ++ piece)) game me at chain held piece rest torn refl

waiting : (at : ℕ) (chain : List ℕ) → LogFeeding
waiting at chain = record { owner = None; at = at; chain = chain; held = []; fault = None }

-- a byte more before it
gives_more : (w : Answer) (before other still left : Unread) → other ≡ before → GivesAll w before still left → GivesAll w other still left
gives_more (Ok None) before other still left e h = e ∙ h
gives_more (Ok (Some x)) before other still left e h = e ∙ h
gives_more (Err fault) before other still left e h = e ∙ h

some_more : (w : Answer) (used : ℕ) → UsesSome w used → UsesSome w (used + 1)
some_more (Ok None) used h = tt
some_more (Ok (Some x)) used h = omega arith
some_more (Err fault) used h = tt

drop_more_one : (n me : ℕ) (piece : List ℕ) → drop (n + 1) (me ∷ piece) ≡ drop n piece
drop_more_one n me piece = let e : n + 1 ≡ suc n = omega arith in ap (λ k. drop k (me ∷ piece)) e

fed_behind : (game : Game) (f g : LogFeeding) (me : ℕ) (piece rest : List ℕ) (s : FeedStep) → unread_on game f (me ∷ (piece ++ rest)) ≡ unread_on game g (piece ++ rest) → IsFed game g piece rest s → IsFed game f (me ∷ piece) rest (one_more s)
fed_behind game f g me piece rest s same fed = record {
  feeding = fed.feeding;
  within = let w = fed.within in omega arith;
  some = some_more s.fed.what s.fed.used fed.some;
  all = subst (λ (xs : List ℕ). GivesAll s.fed.what (unread_on game f (me ∷ (piece ++ rest))) (unread_on game s.feeding rest) (unread_on game s.feeding (xs ++ rest))) (sym (drop_more_one s.fed.used me piece))
      (gives_more s.fed.what _ _ _ _ same fed.all);
}

fed_first : (game : Game) (at : ℕ) (chain piece rest : List ℕ) → IsFed game (waiting at chain) piece rest (first_fed game (waiting at chain) piece)
unfolding waiting
fed_first game at chain [] rest = record { feeding = record { torn = λ h. refl; begun = λ h. refl }; within = omega arith; some = tt; all = refl }
fed_first game at chain (me ∷ piece) rest = by_test (nat_lt me (players_of game)) refl
  where
    f : LogFeeding
    f = record { owner = None; at = at; chain = chain; held = []; fault = None }

    by_test : (b : Bool) → nat_lt me (players_of game) ≡ b → IsFed game f (me ∷ piece) rest (if b then one_more (entry_fed game me (feed_of f me) piece) else fault_step f 1 (fault_at 0 BadEntry))
    by_test true t =
        let same : unread_on game f (me ∷ (piece ++ rest)) ≡ unread_on game (feed_of f me) (piece ++ rest) = rw t refl in
        fed_behind game f (feed_of f me) me piece rest (entry_fed game me (feed_of f me) piece) same (fed_entry game me (at + 1) (feed_of f me).chain [] piece rest refl)
    by_test false t = record { feeding = record { torn = λ h. absurd (no_fault _ h); begun = λ h. refl }; within = omega arith; some = tt; all = rw t refl }

fed_fields : (game : Game) (owner : Option ℕ) (at : ℕ) (chain held : List ℕ) (x : Option LogFault) (piece rest : List ℕ) → let f : LogFeeding = record { owner = owner; at = at; chain = chain; held = held; fault = x } in
    IsFeeding f → IsFed game f piece rest (fed_step game f piece)
unfolding fed_step waiting
fed_fields game owner at chain held (Some x) piece rest is = record { feeding = is; within = omega arith; some = tt; all = refl }
fed_fields game (Some me) at chain held None piece rest is = fed_entry game me at chain held piece rest (is.torn refl)
fed_fields game None at chain held None piece rest is =
    subst (λ (xs : List ℕ). IsFed game (record { owner = None; at = at; chain = chain; held = xs; fault = None }) piece rest (first_fed game (record { owner = None; at = at; chain = chain; held = xs; fault = None }) piece))
    (sym (is.begun refl)) (fed_first game at chain piece rest)

fed_is : (game : Game) (f : LogFeeding) (piece rest : List ℕ) → IsFeeding f → IsFed game f piece rest (fed_step game f piece)
fed_is game f piece rest is = fed_fields game f.owner f.at f.chain f.held f.fault piece rest is

-- ---- feeds until a piece is used up

record IsGiven (game : Game) (f : LogFeeding) (piece rest : List ℕ) (g : LogGiven) : Type 0 where
  feeding : IsFeeding g.feeding
  all : unread_on game f (piece ++ rest) ≡ with_entries g.entries (unread_on game g.feeding rest)

given_step : (w : Answer) (game : Game) (f : LogFeeding) (piece rest : List ℕ) (most used : ℕ) (next : LogFeeding) → IsFeeding next → used ≤ length piece → UsesSome w used → length piece < suc most →
    GivesAll w (unread_on game f (piece ++ rest)) (unread_on game next rest) (unread_on game next (drop used piece ++ rest)) →
    ((left : List ℕ) → length left < most → IsGiven game next left rest (given_by game most next left)) → IsGiven game f piece rest (given_on w next (given_by game most next (drop used piece)))
given_step (Ok None) game f piece rest most used next is within some few all ih = record { feeding = is; all = all }
given_step (Err fault) game f piece rest most used next is within some few all ih = record { feeding = is; all = all }
given_step (Ok (Some e)) game f piece rest most used next is within some few all ih =
    let left = length-drop used piece in
    let more = ih (drop used piece) (omega arith) in
    record { feeding = more.feeding; all = all ∙ ap (with_entry e) more.all }

given_most : (most : ℕ) (game : Game) (f : LogFeeding) (piece rest : List ℕ) → IsFeeding f → length piece < most → IsGiven game f piece rest (given_by game most f piece)
given_most zero game f piece rest is few = absurd (omega arith)
given_most (suc most) game f piece rest is few =
    let s : FeedStep = fed_step game f piece in
    let fed = fed_is game f piece rest is in
    given_step s.fed.what game f piece rest most s.fed.used s.feeding fed.feeding fed.within fed.some few fed.all (λ left less. given_most most game s.feeding left rest fed.feeding less)

given_piece : (game : Game) (f : LogFeeding) (piece rest : List ℕ) → IsFeeding f → IsGiven game f piece rest (given_of game f piece)
given_piece game f piece rest is = given_most (suc (length piece)) game f piece rest is (omega arith)

-- with feeds enough it doesn't matter how many there may be
same_by : (w : Answer) (game : Game) (next : LogFeeding) (piece : List ℕ) (m n used : ℕ) → used ≤ length piece → UsesSome w used → length piece < suc m → length piece < suc n →
    ((left : List ℕ) → length left < m → length left < n → given_by game m next left ≡ given_by game n next left) →
    given_on w next (given_by game m next (drop used piece)) ≡ given_on w next (given_by game n next (drop used piece))
same_by (Ok None) game next piece m n used within some a b ih = refl
same_by (Err fault) game next piece m n used within some a b ih = refl
same_by (Ok (Some e)) game next piece m n used within some a b ih =
    let left = length-drop used piece in
    ap (λ (g : LogGiven). given_on (Ok (Some e)) next g) (ih (drop used piece) (omega arith) (omega arith))

given_same : (m n : ℕ) (game : Game) (f : LogFeeding) (piece : List ℕ) → IsFeeding f → length piece < m → length piece < n → given_by game m f piece ≡ given_by game n f piece
given_same zero n game f piece is a b = absurd (omega arith)
given_same (suc m) zero game f piece is a b = absurd (omega arith)
given_same (suc m) (suc n) game f piece is a b =
    let s : FeedStep = fed_step game f piece in
    let fed = fed_is game f piece [] is in
    same_by s.fed.what game s.feeding piece m n s.fed.used fed.within fed.some a b (λ left c d. given_same m n game s.feeding left fed.feeding c d)

first_by : (w : Answer) (game : Game) (next : LogFeeding) (piece : List ℕ) (used : ℕ) → IsFeeding next → used ≤ length piece → UsesSome w used →
    given_on w next (given_by game (length piece) next (drop used piece)) ≡ given_on w next (given_of game next (drop used piece))
first_by (Ok None) game next piece used is within some = refl
first_by (Err fault) game next piece used is within some = refl
first_by (Ok (Some e)) game next piece used is within some =
    let left = length-drop used piece in
    ap (λ (g : LogGiven). given_on (Ok (Some e)) next g) (given_same (length piece) (suc (length (drop used piece))) game next (drop used piece) is (omega arith) (omega arith))

-- what a piece gives is what the first feed finds, and then what the rest gives
given_rest : (game : Game) (f : LogFeeding) (piece : List ℕ) → IsFeeding f →
    given_of game f piece ≡ given_on (fed_step game f piece).fed.what (fed_step game f piece).feeding (given_of game (fed_step game f piece).feeding (drop (fed_step game f piece).fed.used piece))
given_rest game f piece is =
    let s : FeedStep = fed_step game f piece in
    let fed = fed_is game f piece [] is in
    first_by s.fed.what game s.feeding piece s.fed.used fed.feeding fed.within fed.some

pub given_first : (game : Game) (f : LogFeeding) (r : Fed) (piece : List ℕ) (fed : FeedAnswer) → IsFeedOf r f → r.part.digest_len < 32 → fed ≡ (fed_step game f piece).fed → IsGivenFirst game f piece fed
given_first game f r piece fed is few answer =
    let feeding : IsFeeding f = record { torn = λ good. lt-ltb _ _ (part_torn r.part f.chain f.held (is.part good) few); begun = is.begun } in
    subst (λ (x : FeedAnswer). IsGivenFirst game f piece x) (sym answer) (given_rest game f piece feeding)

-- nothing more comes
none_fields : (game : Game) (owner : Option ℕ) (at : ℕ) (chain held : List ℕ) (x : Option LogFault) → let f : LogFeeding = record { owner = owner; at = at; chain = chain; held = held; fault = x } in
    IsFeeding f → unread_on game f [] ≡ none_but (finished f) owner
none_fields game owner at chain held (Some x) is = refl
none_fields game None at chain held None is = refl
none_fields game (Some me) at chain held None is =
    ap (unread game me at chain) (append-nil held) ∙ unread_is found.Torn game me at chain held (found_torn game me chain held (is.torn refl))

record IsSeen (u : Unread) (g : LogGiven) : Type 0 where
  entries : u.entries ≡ g.entries
  last : u.last ≡ finished g.feeding
  owner : u.owner ≡ g.feeding.owner

all_seen : (game : Game) (pieces : List (List ℕ)) (f : LogFeeding) → IsFeeding f → IsSeen (unread_on game f (flat_map (λ piece. piece) pieces)) (given_over game f pieces)
all_seen game [] f is =
    let none = none_fields game f.owner f.at f.chain f.held f.fault is in
    record { entries = ap (λ (u : Unread). u.entries) none; last = ap (λ (u : Unread). u.last) none; owner = ap (λ (u : Unread). u.owner) none }
all_seen game (piece ∷ pieces) f is =
    let rest : List ℕ = flat_map (λ (p : List ℕ). p) pieces in
    let g : LogGiven = given_of game f piece in
    let one = given_piece game f piece rest is in
    let more = all_seen game pieces g.feeding one.feeding in
    record {
      entries = ap (λ (u : Unread). u.entries) one.all ∙ ap (λ es. g.entries ++ es) more.entries;
      last = ap (λ (u : Unread). u.last) one.all ∙ more.last;
      owner = ap (λ (u : Unread). u.owner) one.all ∙ more.owner;
    }

-- the owner is the first byte
owner_first : (game : Game) (at : ℕ) (id bytes : List ℕ) → (unread_log game at id bytes).owner ≡ owner_in game bytes
owner_first game at id [] = refl
owner_first game at id (me ∷ bytes) = by_test (nat_lt me (players_of game))
  where
    by_test : (b : Bool) → (if b then unread game me (at + 1) (id ++ me ∷ []) bytes else none_but (Err (fault_at 0 BadEntry)) None).owner ≡ (if b then Some me else None)
    by_test true = unread_owner game me (at + 1) (id ++ me ∷ []) bytes
    by_test false = refl

-- the entries, the end and the owner do not depend on the cutting
pub log_pieces_same : (game : Game) (pieces : List (List ℕ)) → IsReadOf game (flat_map (λ piece. piece) pieces) (given_over game (feed_at_start game.id) pieces)
log_pieces_same game pieces =
    let bytes : List ℕ = flat_map (λ (p : List ℕ). p) pieces in
    let start : IsFeeding (feed_at_start game.id) = record { torn = λ h. refl; begun = λ h. refl } in
    let seen = all_seen game pieces (feed_at_start game.id) start in
    let read = log_reads game bytes in
    record {
      entries = sym seen.entries ∙ sym read.entries;
      last = read.said ∙ ap (λ (n : Ending). Some n) seen.last;
      owner = sym seen.owner ∙ owner_first game 0 game.id bytes;
    }
