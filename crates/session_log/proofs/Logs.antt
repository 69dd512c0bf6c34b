-- Logs: what is written is read again, and what is read was written so.
use Rattle.std.proofs.Common.{◌≡◌, ◌≤◌, ◌⊎◌, inl, inr, ℕ, zero, suc, ◌+◌, ◌<◌, Bool, true, false, cond, List, [], ◌∷◌, ◌++◌, length, drop, refl, sym, ◌∙◌, ap, arith, subst, length-append, append_assoc, add-zero}
use Rattle.std.specs.Prelude.{Option, Some, None, Ok, Err, nat_lt, nat_le}
use Rattle.std.proofs.lemmas.Bool.{lt-ltb, ltb-true, ltb-false, cases_lt, le-leb, lt-leb}
use Rattle.std.proofs.lemmas.List.{take-append-drop, drop-drop, drop_at, drop_all, length-drop, length-take-le}
use Rattle.definitions.specs.declared.logs.Entry.{Entry}
use Rattle.definitions.specs.declared.logs.LogWhy.{LogWhy}
use Rattle.definitions.specs.declared.logs.LogWhy.TheVariants.{TooLong, Torn, BadChain, BadEntry, NotReplayed}
use Rattle.definitions.specs.Lists.{EachIs}
use Rattle.definitions.specs.Entries.{AreWellFormed}
use Rattle.definitions.specs.World.{Game, players_of}
use Rattle.session_log.specs.declared.finding.Found.{Found}
use Rattle.session_log.specs.declared.finding.Found.TheVariants as found
use Rattle.session_log.specs.Spelling.{entry_text, chained, entry_bytes, entries_bytes, first_chain, log_bytes, FitsEntry}
use Rattle.session_log.specs.Finding.{entry_at}
use Rattle.session_log.specs.Reading.{Ending, fault_at, LogReading, log_at_start, Step, owned, ended, step_on, step_behind, next_step, ReadLog, read_on, read_by, read_log}
use Rattle.session_log.specs.Writing.{fresh, all_written}
use Rattle.session_log.specs.Laws.{AreBytes, chain_behind, StandsThere, IsFaultAt, EndsSo}
use Rattle.session_log.proofs.Found.{entry_found, IsFound, IsWhy, found_stands, found_why, length-sha256}
use Rattle.session_log.proofs.Texts.{length-entry_text}
use Rattle.plain_lemmas.proofs.Lists.{drop_bytes}

-- ---- writers write logs

all_begun : (owner : ℕ) (chain : List ℕ) (entries : List Entry) → all_written (record { owner = owner; begun = true; chain = chain }) entries ≡ entries_bytes chain entries
all_begun owner chain [] = refl
all_begun owner chain (e ∷ entries) = ap (λ xs. entry_bytes chain e ++ xs) (all_begun owner (chained chain (entry_text e)) entries)

pub log_written : (id : List ℕ) (owner : ℕ) (entries : List Entry) → all_written (fresh id owner) entries ≡ log_bytes id owner entries
log_written id owner [] = refl
log_written id owner (e ∷ entries) =
    let chain : List ℕ = first_chain id owner in
    ap (λ xs. owner ∷ (entry_bytes chain e ++ xs)) (all_begun owner (chained chain (entry_text e)) entries)

-- ---- a log is read

abbrev pub reading : ℕ → ℕ → List ℕ → LogReading
reading me at chain = record { owner = Some me; at = at; chain = chain; said = None }

-- how reading ends
abbrev Ends : ReadLog → List Entry → Type 0
Ends l entries = (l.entries ≡ entries) × (l.reader.said ≡ Some (Ok tt))

length-entry_bytes : (chain : List ℕ) (e : Entry) → 35 ≤ length (entry_bytes chain e)
length-entry_bytes chain e = omega (arith, length-append (entry_text e) (chained chain (entry_text e)), length-entry_text e, length-sha256 (chain ++ entry_text e))

-- a step that gave an entry, and those behind it
read_step : (game : Game) (bytes : List ℕ) (most : ℕ) (r s : LogReading) (e : Entry) (entries : List Entry) → next_step game bytes r ≡ record { reader = s; answer = Ok (Some e) } →
    Ends (read_by game bytes most s) entries → Ends (read_by game bytes (suc most) r) (e ∷ entries)
read_step game bytes most r s e entries step behind =
    let on : Step → ReadLog = λ t. read_on t.answer t.reader (read_by game bytes most t.reader) in
    subst (λ (l : ReadLog). Ends l (e ∷ entries)) (sym (ap on step)) (ap (λ xs. e ∷ xs) behind.0, behind.1)

pub further_is : (game : Game) (bytes : List ℕ) (me at : ℕ) (chain : List ℕ) (f : Found) → at < length bytes → entry_at game me chain (drop at bytes) ≡ f →
    next_step game bytes (reading me at chain) ≡ step_on (reading me at chain) me at f
unfolding next_step
further_is game bytes me at chain f lt e =
    let t : nat_le (length bytes) at ≡ false = lt-leb (length bytes) at lt in
    rw t (ap (step_on (reading me at chain) me at) e)

pub end_is : (game : Game) (bytes : List ℕ) (me at : ℕ) (chain : List ℕ) → length bytes ≤ at → next_step game bytes (reading me at chain) ≡ ended (reading me at chain) (Ok tt)
unfolding next_step
end_is game bytes me at chain le = let t : nat_le (length bytes) at ≡ true = le-leb (length bytes) at le in rw t refl

read_rest : (game : Game) (bytes : List ℕ) (me : ℕ) (entries : List Entry) (most at : ℕ) (chain : List ℕ) → length bytes < at + most → drop at bytes ≡ entries_bytes chain entries → at ≤ length bytes →
    EachIs FitsEntry entries → AreWellFormed game me entries → Ends (read_by game bytes most (reading me at chain)) entries
read_rest game bytes me [] zero at chain few rest within fits well = absurd (omega arith)
read_rest game bytes me [] (suc most) at chain few rest within fits well =
    let done : length bytes ≤ at = let l = length-drop at bytes in let n = ap length rest in omega arith in
    let on : Step → ReadLog = λ t. read_on t.answer t.reader (read_by game bytes most t.reader) in
    subst (λ (l : ReadLog). Ends l []) (sym (ap on (end_is game bytes me at chain done))) (refl, refl)
read_rest game bytes me (e ∷ entries) zero at chain few rest within fits well = absurd (omega arith)
read_rest game bytes me (e ∷ entries) (suc most) at chain few rest within fits well =
    let behind : List ℕ = entries_bytes (chained chain (entry_text e)) entries in
    let n : ℕ = length (entry_bytes chain e) in
    let some = length-entry_bytes chain e in
    let long : length (drop at bytes) ≡ n + length behind = ap length rest ∙ length-append (entry_bytes chain e) behind in
    let left = length-drop at bytes in
    let stands : entry_at game me chain (drop at bytes) ≡ found.Whole e n (chained chain (entry_text e)) = ap (entry_at game me chain) rest ∙ entry_found game me chain e behind fits.0 well.0 in
    let step = further_is game bytes me at chain (found.Whole e n (chained chain (entry_text e))) (omega arith) stands in
    let next_rest : drop (at + n) bytes ≡ behind = sym (drop-drop n at bytes) ∙ ap (drop n) rest ∙ drop_at (entry_bytes chain e) behind n refl in
    read_step game bytes most _ (reading me (at + n) (chained chain (entry_text e))) e entries step
    (read_rest game bytes me entries most (at + n) (chained chain (entry_text e)) (omega arith) next_rest (omega arith) fits.1 well.1)

-- the first entry, behind the owner's byte
first_is : (game : Game) (me : ℕ) (rest : List ℕ) (f : Found) → me < players_of game → 0 < length rest → entry_at game me (first_chain game.id me) rest ≡ f →
    next_step game (me ∷ rest) (log_at_start game.id) ≡ step_on (log_at_start game.id) me 1 f
unfolding next_step
first_is game me [] f lt some e = absurd (omega arith)
first_is game me (b ∷ rest) f lt some e =
    let t : nat_lt me (players_of game) ≡ true = lt-ltb me (players_of game) lt in
    rw t (ap (step_on (log_at_start game.id) me 1) e)

pub log_read : (game : Game) (me : ℕ) (entries : List Entry) → me < players_of game → EachIs FitsEntry entries → AreWellFormed game me entries →
    ((read_log game (log_bytes game.id me entries)).entries ≡ entries) × ((read_log game (log_bytes game.id me entries)).reader.said ≡ Some (Ok tt))
unfolding read_log next_step
log_read game me [] lt fits well = (refl, refl)
log_read game me (e ∷ entries) lt fits well =
    let chain : List ℕ = first_chain game.id me in
    let behind : List ℕ = entries_bytes (chained chain (entry_text e)) entries in
    let rest : List ℕ = entry_bytes chain e ++ behind in
    let n : ℕ = length (entry_bytes chain e) in
    let some = length-entry_bytes chain e in
    let long : length rest ≡ n + length behind = length-append (entry_bytes chain e) behind in
    let stands : entry_at game me chain rest ≡ found.Whole e n (chained chain (entry_text e)) = entry_found game me chain e behind fits.0 well.0 in
    let step = first_is game me rest (found.Whole e n (chained chain (entry_text e))) lt (omega arith) stands in
    let next_rest : drop (1 + n) (me ∷ rest) ≡ behind = sym (drop-drop n 1 (me ∷ rest)) ∙ drop_at (entry_bytes chain e) behind n refl in
    read_step game (me ∷ rest) (length (me ∷ rest)) (log_at_start game.id) (reading me (1 + n) (chained chain (entry_text e))) e entries step
    (read_rest game (me ∷ rest) me entries (length (me ∷ rest)) (1 + n) (chained chain (entry_text e)) (omega arith) next_rest (omega arith) fits.1 well.1)

-- ---- how reading ends

-- the bytes from a place on are these entries and then more bytes, in which this stands
record RestStands (game : Game) (me at : ℕ) (chain bytes : List ℕ) (entries : List Entry) (place : ℕ) (f : Found) : Type 0 where
  rest : List ℕ
  some : 0 < length rest
  bytes_are : bytes ≡ entries_bytes chain entries ++ rest
  place_is : place ≡ at + length (entries_bytes chain entries)
  well_formed : AreWellFormed game me entries
  there : entry_at game me (chain_behind chain entries) rest ≡ f

-- what stands there where a reader names this cause
abbrev StandsSo : LogWhy → Found → Type 0
StandsSo TooLong f = ⊥
StandsSo Torn f = f ≡ found.Torn
StandsSo BadChain f = f ≡ found.Bad BadChain
StandsSo BadEntry f = f ≡ found.Bad BadEntry
StandsSo NotReplayed f = ⊥

-- what the end says of the bytes from a place on
abbrev RestEnds : Game → ℕ → ℕ → List ℕ → List ℕ → List Entry → Ending → Type 0
RestEnds game me at chain bytes entries (Ok whole) = (bytes ≡ entries_bytes chain entries) × AreWellFormed game me entries
RestEnds game me at chain bytes entries (Err fault) = (f : Found) × StandsSo fault.why f × RestStands game me at chain bytes entries fault.at f

-- reading from a place on came to an end
abbrev HasEnded : Game → ℕ → ℕ → List ℕ → List ℕ → ReadLog → Type 0
HasEnded game me at chain bytes l = (last : Ending) × (l.reader.said ≡ Some last) × RestEnds game me at chain bytes l.entries last

-- nothing was read from the place on
none_read : (game : Game) (me at : ℕ) (chain bytes : List ℕ) (f : Found) → 0 < length bytes → entry_at game me chain bytes ≡ f → RestStands game me at chain bytes [] at f
none_read game me at chain bytes f some e = record { rest = bytes; some = some; bytes_are = refl; place_is = sym (add-zero at); well_formed = tt; there = e }

-- an entry in front
stands_more : (game : Game) (me at : ℕ) (chain bytes : List ℕ) (e : Entry) (count : ℕ) (digest : List ℕ) (entries : List Entry) (place : ℕ) (f : Found) → IsFound game me chain bytes e count digest →
    RestStands game me (at + count) digest (drop count bytes) entries place f → RestStands game me at chain bytes (e ∷ entries) place f
stands_more game me at chain bytes e count digest entries place f is behind =
    let front : List ℕ = entry_bytes chain e in
    let text : List ℕ = entries_bytes digest entries in
    let same : entries_bytes (chained chain (entry_text e)) entries ≡ text = ap (λ d. entries_bytes d entries) (sym is.is_digest) in
    let long : length front ≡ count = ap length is.is_text ∙ length-take-le count bytes is.fits in
    let p = behind.place_is in
    let l = length-append front text in
    record {
      rest = behind.rest;
      some = behind.some;
      bytes_are = sym (take-append-drop count bytes) ∙ ap (λ xs. xs ++ drop count bytes) (sym is.is_text) ∙ ap (λ xs. front ++ xs) behind.bytes_are ∙
          sym (append_assoc front text behind.rest) ∙ ap (λ xs. (front ++ xs) ++ behind.rest) (sym same);
      place_is = let all : place ≡ at + length (front ++ text) = omega arith in all ∙ ap (λ xs. at + length (front ++ xs)) (sym same);
      well_formed = (is.well, behind.well_formed);
      there = ap (λ d. entry_at game me (chain_behind d entries) behind.rest) (sym is.is_digest) ∙ behind.there;
    }

ends_more : (game : Game) (me at : ℕ) (chain bytes : List ℕ) (e : Entry) (count : ℕ) (digest : List ℕ) (entries : List Entry) (last : Ending) → IsFound game me chain bytes e count digest →
    RestEnds game me (at + count) digest (drop count bytes) entries last → RestEnds game me at chain bytes (e ∷ entries) last
ends_more game me at chain bytes e count digest entries (Ok whole) is behind = (
  sym (take-append-drop count bytes) ∙ ap (λ xs. xs ++ drop count bytes) (sym is.is_text) ∙ ap (λ xs. entry_bytes chain e ++ xs) behind.0 ∙
      ap (λ d. entry_bytes chain e ++ entries_bytes d entries) is.is_digest,
  (is.well, behind.1),
)
ends_more game me at chain bytes e count digest entries (Err fault) is behind = (behind.0, behind.1, stands_more game me at chain bytes e count digest entries fault.at behind.0 is behind.2)

-- a cause that stands there is one that a reader names
bad_so : (game : Game) (me : ℕ) (chain bytes : List ℕ) (why : LogWhy) → entry_at game me chain bytes ≡ found.Bad why → StandsSo why (found.Bad why)
bad_so game me chain bytes why e = elim (subst IsWhy e (found_why game me chain bytes)) [
  | inl chained ↦ subst (λ (w : LogWhy). StandsSo w (found.Bad w)) (sym chained) refl
  | inr entry ↦ subst (λ (w : LogWhy). StandsSo w (found.Bad w)) (sym entry) refl
]

-- what was read on after a step by what stands there
found_ends : (game : Game) (log : List ℕ) (me at most : ℕ) (chain bytes : List ℕ) (r : LogReading) (f : Found) → r.said ≡ None → 0 < length bytes → entry_at game me chain bytes ≡ f → AreBytes bytes →
    ((e : Entry) (count : ℕ) (digest : List ℕ) → 0 < count → count ≤ length bytes →
    HasEnded game me (at + count) digest (drop count bytes) (read_by game log most (reading me (at + count) digest))) →
    let s : Step = step_on r me at f in
    HasEnded game me at chain bytes (read_on s.answer s.reader (read_by game log most s.reader))
found_ends game log me at most chain bytes r found.Torn none some e b ih = (Err (fault_at at Torn), refl, (found.Torn, refl, none_read game me at chain bytes found.Torn some e))
found_ends game log me at most chain bytes r (found.Bad why) none some e b ih =
    (Err (fault_at at why), refl, (found.Bad why, bad_so game me chain bytes why e, none_read game me at chain bytes (found.Bad why) some e))
found_ends game log me at most chain bytes r (found.Whole x count digest) none some e b ih =
    let is = found_stands game me chain bytes x count digest b e in
    let s : LogReading = record { owner = Some me; at = at + count; chain = digest; said = r.said } in
    let same : s ≡ reading me (at + count) digest = ap (λ (o : Option Ending). record { owner = Some me; at = at + count; chain = digest; said = o }) none in
    let more = ih x count digest is.some is.fits in
    let l : ReadLog = read_by game log most (reading me (at + count) digest) in
    subst (λ (q : LogReading). HasEnded game me at chain bytes (read_on (Ok (Some x)) q (read_by game log most q))) (sym same)
    (more.0, more.1, ends_more game me at chain bytes x count digest l.entries more.0 is more.2)

-- a step from a place on, and what was read on behind it
rest_by : (most : ℕ) (game : Game) (log : List ℕ) (me at : ℕ) (chain : List ℕ) → (at < length log) ⊎ (length log ≤ at) → AreBytes log → at ≤ length log → length log < at + suc most →
    ((at : ℕ) (chain : List ℕ) → at ≤ length log → length log < at + most → HasEnded game me at chain (drop at log) (read_by game log most (reading me at chain))) →
    HasEnded game me at chain (drop at log) (read_by game log (suc most) (reading me at chain))
rest_by most game log me at chain (inl lt) b within few ih =
    let on : Step → ReadLog = λ t. read_on t.answer t.reader (read_by game log most t.reader) in
    let f : Found = entry_at game me chain (drop at log) in
    let step = further_is game log me at chain f lt refl in
    subst (λ (t : Step). HasEnded game me at chain (drop at log) (on t)) (sym step)
    (found_ends game log me at most chain (drop at log) (reading me at chain) f refl (omega (arith, length-drop at log)) refl (drop_bytes at log b)
    (λ e count digest some fits.
    let l = length-drop at log in
    let r = ih (at + count) digest (omega arith) (omega arith) in
    subst (λ (xs : List ℕ). HasEnded game me (at + count) digest xs (read_by game log most (reading me (at + count) digest))) (sym (drop-drop count at log)) r))
rest_by most game log me at chain (inr le) b within few ih =
    let on : Step → ReadLog = λ t. read_on t.answer t.reader (read_by game log most t.reader) in
    let step = end_is game log me at chain le in
    subst (λ (t : Step). HasEnded game me at chain (drop at log) (on t)) (sym step) (Ok tt, refl, (drop_all at log le, tt))

rest_ends : (most : ℕ) (game : Game) (log : List ℕ) (me at : ℕ) (chain : List ℕ) → AreBytes log → at ≤ length log → length log < at + most →
    HasEnded game me at chain (drop at log) (read_by game log most (reading me at chain))
rest_ends zero game log me at chain b within few = absurd (omega arith)
rest_ends (suc most) game log me at chain b within few =
    rest_by most game log me at chain (cases_lt at (length log)) b within few (λ at chain h q. rest_ends most game log me at chain b h q)

-- the same of the log, behind the owner's byte
log_stands : (game : Game) (me : ℕ) (bytes : List ℕ) (entries : List Entry) (place : ℕ) (f : Found) → me < players_of game → RestStands game me 1 (first_chain game.id me) bytes entries place f →
    StandsThere game (me ∷ bytes) entries place f
log_stands game me bytes entries place f known r =
    record { me = me; known = known; rest = r.rest; some = r.some; bytes_are = ap (λ xs. me ∷ xs) r.bytes_are; place_is = r.place_is; well_formed = r.well_formed; there = r.there }

-- a fault behind the owner's byte
fault_ends : (game : Game) (me : ℕ) (bytes : List ℕ) (entries : List Entry) (place : ℕ) (why : LogWhy) (f : Found) → me < players_of game → StandsSo why f → RestStands game me 1 (first_chain game.id me) bytes entries place f →
    IsFaultAt game (me ∷ bytes) entries place why
fault_ends game me bytes entries place TooLong f known so r = absurd so
fault_ends game me bytes entries place Torn f known so r = inl (subst (StandsThere game (me ∷ bytes) entries place) so (log_stands game me bytes entries place f known r))
fault_ends game me bytes entries place BadChain f known so r = subst (StandsThere game (me ∷ bytes) entries place) so (log_stands game me bytes entries place f known r)
fault_ends game me bytes entries place BadEntry f known so r = inl (subst (StandsThere game (me ∷ bytes) entries place) so (log_stands game me bytes entries place f known r))
fault_ends game me bytes entries place NotReplayed f known so r = absurd so

log_ends_by : (game : Game) (me : ℕ) (bytes : List ℕ) (entries : List Entry) (last : Ending) → me < players_of game → 0 < length bytes → RestEnds game me 1 (first_chain game.id me) bytes entries last →
    EndsSo game (me ∷ bytes) entries last
log_ends_by game me bytes [] (Ok whole) known some r = absurd (let n = ap length r.0 in omega arith)
log_ends_by game me bytes (e ∷ entries) (Ok whole) known some r = record { me = me; known = λ some. known; bytes_are = ap (λ xs. me ∷ xs) r.0; well_formed = r.1 }
log_ends_by game me bytes entries (Err fault) known some r = fault_ends game me bytes entries fault.at fault.why r.0 known r.1 r.2

-- an end that is right
abbrev LogHasEnded : Game → List ℕ → ReadLog → Type 0
LogHasEnded game bytes l = (last : Ending) × (l.reader.said ≡ Some last) × EndsSo game bytes l.entries last

first_ends : (game : Game) (me : ℕ) (rest : List ℕ) (most : ℕ) → AreBytes (me ∷ rest) → length (me ∷ rest) < 1 + suc most → (b : Bool) → nat_lt me (players_of game) ≡ b →
    let s : Step = cond b (step_behind game (log_at_start game.id) me rest) (ended (owned (log_at_start game.id) me) (Err (fault_at 0 BadEntry))) in
    LogHasEnded game (me ∷ rest) (read_on s.answer s.reader (read_by game (me ∷ rest) most s.reader))
first_ends game me rest most bytes few false t = (Err (fault_at 0 BadEntry), refl, inr (me, rest, ltb-false me (players_of game) t, refl, refl, refl))
first_ends game me [] most bytes few true t = (Err (fault_at 0 Torn), refl, inr (me, ltb-true me (players_of game) t, refl, refl, refl))
first_ends game me (x ∷ rest) most bytes few true t =
    let log : List ℕ = me ∷ x ∷ rest in
    let chain : List ℕ = first_chain game.id me in
    let f : Found = entry_at game me chain (x ∷ rest) in
    let s : Step = step_on (log_at_start game.id) me 1 f in
    let l : ReadLog = read_on s.answer s.reader (read_by game log most s.reader) in
    let r : HasEnded game me 1 chain (x ∷ rest) l =
    found_ends game log me 1 most chain (x ∷ rest) (log_at_start game.id) f refl (omega arith) refl (λ i. bytes (suc i))
    (λ e count digest some fits.
    let q = rest_ends most game log me (1 + count) digest bytes (omega arith) (omega arith) in
    subst (λ (xs : List ℕ). HasEnded game me (1 + count) digest xs (read_by game log most (reading me (1 + count) digest))) (sym (drop-drop count 1 log)) q) in
    (r.0, r.1, log_ends_by game me (x ∷ rest) l.entries r.0 (ltb-true me (players_of game) t) (omega arith) r.2)

pub log_ends : (game : Game) (bytes : List ℕ) → AreBytes bytes → (last : Ending) × ((read_log game bytes).reader.said ≡ Some last) × EndsSo game bytes (read_log game bytes).entries last
unfolding read_log next_step
log_ends game [] b = (Ok tt, refl, record { me = 0; known = λ some. absurd (omega arith); bytes_are = refl; well_formed = tt })
log_ends game (me ∷ rest) b = first_ends game me rest (length (me ∷ rest)) b (omega arith) (nat_lt me (players_of game)) refl
