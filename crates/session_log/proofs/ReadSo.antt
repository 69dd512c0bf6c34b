-- ReadSo: what holds of each entry that stands in a log's bytes holds of all that are read of it.
use Rattle.std.proofs.Common.{◌≡◌, ℕ, zero, suc, ◌+◌, Bool, true, false, List, [], ◌∷◌, Option, Some, None, length, drop, refl, sym, subst, ap, ◌∙◌}
use Rattle.std.specs.Prelude.{Ok, Err, ◌==◌, IsTrue, slice_index, nat_le, nat_lt, if◌then◌else◌}
use Rattle.definitions.specs.declared.frames.TurnFrame.{TurnFrame}
use Rattle.definitions.specs.declared.frames.TurnFrame.TheVariants.{Commit, Reveal}
use Rattle.definitions.specs.declared.logs.Entry.{Entry}
use Rattle.definitions.specs.declared.logs.LogWhy.TheVariants.{BadChain, BadEntry}
use Rattle.definitions.specs.declared.logs.Entry.TheVariants.{Chose, Made, Got}
use Rattle.definitions.specs.Lists.{EachIs}
use Rattle.commitment.specs.Spelling.{turn_frame_of}
use Rattle.commitment.proofs.Fitting.{fits_read}
use Rattle.commitment.proofs.Reading.{read_spelled}
use Rattle.plain_lemmas.proofs.Lists.{drop_bytes, take_bytes}
use Rattle.plain_lemmas.proofs.Options.{map_some}
use Rattle.definitions.specs.World.{Game, players_of}
use Rattle.definitions.specs.Entries.{AreWellFormed, is_well_formed}
use Rattle.session_log.specs.declared.finding.Found.{Found}
use Rattle.session_log.specs.declared.finding.Found.TheVariants as found
use Rattle.session_log.specs.Spelling.{first_chain}
use Rattle.session_log.specs.Entries.{as_reveal, choice_of, chose_of, entry_by, entry_of, got_of, made_of, told_len}
use Rattle.session_log.specs.Finding.{digest_at, entry_at, is_torn, is_unchained, owned_by, text_at}
use Rattle.session_log.specs.Laws.{AreBytes, GotFrameFits, GotFramesFit, ReadEntriesAreWellFormed, owner_in}
use Rattle.session_log.specs.Reading.{Ending, Answer, fault_at, LogReading, ReadLog, Step, ended, further_step, log_at_start, next_step, owned, read_by, read_log, read_on, step_behind, step_on}

-- P of the entry that is found, or of the one that is answered
abbrev FoundSo : (P : Entry → Type 0) → Found → Type 0
FoundSo P (found.Whole e count digest) = P e
FoundSo P f = Unit {0}

abbrev AnswerSo : (P : Entry → Type 0) → Answer → Type 0
AnswerSo P (Ok (Some e)) = P e
AnswerSo P answer = Unit {0}

-- a step of a reader of this owner's log
record IsStepOf (P : Entry → Type 0) (me : ℕ) (s : Step) : Type 0 where
  owner : s.reader.owner ≡ Some me
  so : AnswerSo P s.answer

step_so : (P : Entry → Type 0) (r : LogReading) (me at : ℕ) (f : Found) → FoundSo P f → IsStepOf P me (step_on r me at f)
step_so P r me at found.Torn w = record { owner = refl; so = tt }
step_so P r me at (found.Bad why) w = record { owner = refl; so = tt }
step_so P r me at (found.Whole e count digest) w = record { owner = refl; so = w }

on_so : (P : Entry → Type 0) (answer : Answer) (r : LogReading) (l : ReadLog) → AnswerSo P answer → EachIs P l.entries → EachIs P (read_on answer r l).entries
on_so P (Ok (Some e)) r l w ws = (w, ws)
on_so P (Ok None) r l w ws = tt
on_so P (Err fault) r l w ws = tt

module _ (P : Entry → Type 0) (game : Game) (log : List ℕ) (me : ℕ) (stands : (chain : List ℕ) (at : ℕ) → FoundSo P (entry_at game me chain (drop at log))) where
  further_so : (r : LogReading) → r.owner ≡ Some me → IsStepOf P me (further_step game r me log)
  further_so r o = go (nat_le (length log) r.at)
    where
      go : (b : Bool) → IsStepOf P me (if b then ended r (Ok tt) else step_on r me r.at (entry_at game me r.chain (drop r.at log)))
      go true = record { owner = o; so = tt }
      go false = step_so P r me r.at (entry_at game me r.chain (drop r.at log)) (stands r.chain r.at)

  next_so : (at : ℕ) (chain : List ℕ) (said : Option Ending) → let r : LogReading = record { owner = Some me; at = at; chain = chain; said = said } in IsStepOf P me (next_step game log r)
  unfolding next_step
  next_so at chain None = further_so (record { owner = Some me; at = at; chain = chain; said = None }) refl
  next_so at chain (Some (Ok whole)) = record { owner = refl; so = tt }
  next_so at chain (Some (Err fault)) = record { owner = refl; so = tt }

  read_so : (most : ℕ) (r : LogReading) → r.owner ≡ Some me → EachIs P (read_by game log most r).entries
  read_so zero r o = tt
  read_so (suc most) r o =
      let s : Step = next_step game log r in
      let is : IsStepOf P me s = subst (λ (q : LogReading). IsStepOf P me (next_step game log q)) (ap (λ (w : Option ℕ). record { owner = w; at = r.at; chain = r.chain; said = r.said }) (sym o))
      (next_so r.at r.chain r.said) in
      on_so P s.answer s.reader (read_by game log most s.reader) is.so (read_so most s.reader is.owner)

-- all that is read of a log whose first byte is this
log_so : (P : Entry → Type 0) (game : Game) (me : ℕ) (bytes : List ℕ) → ((chain : List ℕ) (at : ℕ) → FoundSo P (entry_at game me chain (drop at (me ∷ bytes)))) → EachIs P (read_log game (me ∷ bytes)).entries
unfolding read_log next_step
log_so P game me bytes stands = go (nat_lt me (players_of game))
  where
    most : ℕ
    most = length (me ∷ bytes)

    behind : (rest : List ℕ) → bytes ≡ rest → IsStepOf P me (step_behind game (log_at_start game.id) me rest)
    behind [] e = record { owner = refl; so = tt }
    behind (b ∷ rest) e =
        let there : FoundSo P (entry_at game me (first_chain game.id me) (b ∷ rest)) = subst (λ xs. FoundSo P (entry_at game me (first_chain game.id me) xs)) e (stands (first_chain game.id me) 1) in
        step_so P (log_at_start game.id) me 1 (entry_at game me (first_chain game.id me) (b ∷ rest)) there

    go : (b : Bool) →
        let s : Step = if b then step_behind game (log_at_start game.id) me bytes else ended (owned (log_at_start game.id) me) (Err (fault_at 0 BadEntry)) in
        EachIs P (read_on s.answer s.reader (read_by game (me ∷ bytes) most s.reader)).entries
    go false = tt
    go true =
        let s : Step = step_behind game (log_at_start game.id) me bytes in
        let w = behind bytes refl in
        on_so P s.answer s.reader (read_by game (me ∷ bytes) most s.reader) w.so (read_so P game (me ∷ bytes) me stands most s.reader w.owner)

-- what is owned or stands there is found by its text
owned_so : (P : Entry → Type 0) (game : Game) (me : ℕ) (o : Option Entry) (count : ℕ) (digest : List ℕ) → ((e : Entry) → o ≡ Some e → IsTrue (is_well_formed game me e) → P e) → FoundSo P (owned_by game me o count digest)
owned_so P game me None count digest h = tt
owned_so P game me (Some e) count digest h = go (is_well_formed game me e) refl
  where
    go : (b : Bool) → is_well_formed game me e ≡ b → FoundSo P (if b then found.Whole e count digest else found.Bad BadEntry)
    go true is = h e refl is
    go false is = tt

found_so : (P : Entry → Type 0) (game : Game) (me : ℕ) (chain bytes : List ℕ) → ((e : Entry) → entry_of (text_at bytes) ≡ Some e → IsTrue (is_well_formed game me e) → P e) → FoundSo P (entry_at game me chain bytes)
unfolding entry_at
found_so P game me chain bytes h = go (is_torn bytes) (is_unchained chain bytes)
  where
    go : (torn unchained : Bool) →
        FoundSo P (if torn then found.Torn else if unchained then found.Bad BadChain else owned_by game me (entry_of (text_at bytes)) (told_len bytes + 35) (digest_at bytes))
    go true b = tt
    go false true = tt
    go false false = owned_so P game me (entry_of (text_at bytes)) (told_len bytes + 35) (digest_at bytes) h

-- the log's entries are ones that its owner may have written
pub read_well_formed : ReadEntriesAreWellFormed
read_well_formed game [] me o = absurd (let never : None ≡ Some me = o in cc)
read_well_formed game (first ∷ bytes) me o = go (nat_lt first (players_of game)) o
  where
    go : (b : Bool) → (if b then Some first else None) ≡ Some me → AreWellFormed game me (read_log game (first ∷ bytes)).entries
    go false e = absurd (let never : None ≡ Some me = e in cc)
    go true e =
        let same : first ≡ me = cc in
        let P : Entry → Type 0 = λ x. IsTrue (is_well_formed game first x) in
        subst (λ m. AreWellFormed game m (read_log game (first ∷ bytes)).entries) same
        (log_so P game first bytes (λ chain at. found_so P game first chain (drop at (first ∷ bytes)) (λ x is well. well)))

-- and so whatever the bytes are, some player may have
pub read_is_log : (game : Game) (bytes : List ℕ) → (me : ℕ) × AreWellFormed game me (read_log game bytes).entries
unfolding read_log next_step
read_is_log game [] = (0, tt)
read_is_log game (me ∷ bytes) =
    let P : Entry → Type 0 = λ x. IsTrue (is_well_formed game me x) in
    (me, log_so P game me bytes (λ chain at. found_so P game me chain (drop at (me ∷ bytes)) (λ x is well. well)))

-- a frame that was got, by its text
got_fits : (body : List ℕ) (e : Entry) → AreBytes body → got_of body ≡ Some e → GotFrameFits e
got_fits [] e b h = absurd cc
got_fits (q ∷ frame) e b h =
    let read = map_some (λ (f : TurnFrame). Got q f) (turn_frame_of frame) e h in
    let bytes : AreBytes frame = λ i. b (suc i) in
    subst GotFrameFits read.2 (fits_read frame read.0 bytes read.1, subst AreBytes (sym (read_spelled frame read.0 bytes read.1)) bytes)

chose_fits : (o : Option TurnFrame) (e : Entry) → choice_of o ≡ Some e → GotFrameFits e
chose_fits None e h = absurd cc
chose_fits (Some (Commit p t d)) e h = absurd cc
chose_fits (Some (Reveal p t m n)) e h = let same : Chose t m n ≡ e = cc in subst GotFrameFits same tt

by_fits : (kind : ℕ) (body : List ℕ) (e : Entry) → AreBytes body → entry_by kind body ≡ Some e → GotFrameFits e
unfolding chose_of
by_fits kind body e b h = go (kind == 1) (kind == 2) (kind == 3) h
  where
    go : (one two three : Bool) → (if one then chose_of body else if two then made_of body else if three then got_of body else None) ≡ Some e → GotFrameFits e
    go true two three h = chose_fits (turn_frame_of (as_reveal body)) e h
    go false true three h = let read = map_some (λ (f : TurnFrame). Made f) (turn_frame_of body) e h in subst GotFrameFits read.2 tt
    go false false true h = got_fits body e b h
    go false false false h = absurd (let never : None ≡ Some e = h in cc)

text_fits : (text : List ℕ) (e : Entry) → AreBytes text → entry_of text ≡ Some e → GotFrameFits e
unfolding entry_of
text_fits text e b h = go (length text == told_len text + 3) h
  where
    go : (b : Bool) → (if b then entry_by (slice_index text 2) (drop 3 text) else None) ≡ Some e → GotFrameFits e
    go true h = by_fits (slice_index text 2) (drop 3 text) e (drop_bytes 3 text b) h
    go false h = absurd (let never : None ≡ Some e = h in cc)

pub got_frames_fit : GotFramesFit
unfolding read_log next_step
got_frames_fit game [] b = tt
got_frames_fit game (me ∷ bytes) b =
    log_so GotFrameFits game me bytes (λ chain at.
    let rest : List ℕ = drop at (me ∷ bytes) in
    found_so GotFrameFits game me chain rest (λ e is well. text_fits (text_at rest) e (take_bytes (told_len rest + 3) rest (drop_bytes at (me ∷ bytes) b)) is))
