-- Fronts: what a reader finds at the front of bytes, and how the search for a lucky tail goes on there.
use Rattle.std.proofs.Common.{◌≡◌, inl, inr, ℕ, zero, suc, ◌+◌, ◌≤◌, true, false, refl, sym, ap, ◌∙◌, List, [], ◌++◌, arith, length, take, drop, length-append, append_assoc}
use Rattle.std.specs.Prelude.{Option, Some, Ok, not, ◌&&◌, ◌==◌, nat_le, IsTrue}
use Rattle.std.specs.Str.{bytes_eq}
use Rattle.std.proofs.lemmas.Bool.{and_from, and_parts, eqb-true, cases_lt, lt-ltb, le-ltb, le-leb, leb-true}
use Rattle.std.proofs.lemmas.List.{take_at, drop_at, take-append-drop, length-take-le}
use Rattle.std.proofs.lemmas.Slice.Eq.{bytes_eq-Decides}
use Rattle.plain_lemmas.proofs.Tests.{chosen}
use Rattle.definitions.specs.declared.logs.Entry.{Entry}
use Rattle.definitions.specs.Entries.{is_well_formed}
use Rattle.definitions.specs.World.{Game}
use Rattle.session_log.specs.Spelling.{entry_text, chained, entry_bytes}
use Rattle.session_log.specs.Entries.{told_len, entry_of}
use Rattle.session_log.specs.Finding.{text_at, digest_at, is_torn, is_unchained, owned_by, entry_at}
use Rattle.session_log.specs.Reading.{LogReading, Step, ReadLog, step_on, read_on, read_by}
use Rattle.session_log.proofs.Found.{length-sha256}
use Rattle.session_log.proofs.Texts.{told_more, told_cut}
use Rattle.loop_rules.specs.Images.{entry_len, has_whole, is_chained, lucky_behind}
use Rattle.peer_command.proofs.Moves.{IsRead}

bytes_same : (xs : List ℕ) → bytes_eq xs xs ≡ true
bytes_same xs = (bytes_eq-Decides xs xs).1 refl

-- ---- the bytes of an entry that is read from its text

length-read : (text : List ℕ) (e : Entry) → entry_of text ≡ Some e → length text ≡ told_len text + 3
unfolding entry_of
length-read text e h = elim (chosen (length text == told_len text + 3) _ _ _ h) [
  | inl a ↦ eqb-true _ _ a.0
  | inr n ↦ absurd (let none = n.1 in cc)
]

-- what stands at the front of bytes that begin with them
pub record IsFront (chain : List ℕ) (e : Entry) (more : List ℕ) : Type 0 where
  -- 35 bytes and more
  pub long : length (entry_bytes chain e) ≡ told_len (entry_text e) + 35
  pub len : length (entry_bytes chain e) ≡ entry_len (entry_bytes chain e ++ more)
  pub text : text_at (entry_bytes chain e ++ more) ≡ entry_text e
  pub digest : digest_at (entry_bytes chain e ++ more) ≡ chained chain (entry_text e)

pub is_front : (chain : List ℕ) (e : Entry) (more : List ℕ) → IsRead e → IsFront chain e more
is_front chain e more h =
    let text : List ℕ = entry_text e in
    let digest : List ℕ = chained chain text in
    let bytes : List ℕ = (text ++ digest) ++ more in
    let joined : bytes ≡ text ++ (digest ++ more) = append_assoc text digest more in
    let read : length text ≡ told_len text + 3 = length-read text e h in
    let hashed : length digest ≡ 32 = length-sha256 (chain ++ text) in
    let told : told_len bytes ≡ told_len text = ap told_len joined ∙ told_more text (digest ++ more) (omega arith) in
    let here : length text ≡ told_len bytes + 3 = omega arith in
    let both = length-append text digest in
    record {
      long = omega arith;
      len = omega arith;
      text = ap (take (told_len bytes + 3)) joined ∙ take_at text (digest ++ more) (told_len bytes + 3) here;
      digest = ap (λ xs. take 32 (drop (told_len bytes + 3) xs)) joined ∙ ap (take 32) (drop_at text (digest ++ more) (told_len bytes + 3) here) ∙ take_at digest more 32 hashed;
    }

-- ---- the step of a reader there

-- what is read on after a step
abbrev pub on : Game → List ℕ → ℕ → Step → ReadLog
on game log most t = read_on t.answer t.reader (read_by game log most t.reader)

-- these entries were read, and the owner
abbrev pub Reads : ReadLog → List Entry → ℕ → Type 0
Reads l entries me = (l.entries ≡ entries) × (l.reader.owner ≡ Some me)

-- such an entry is answered
pub step_passes : (game : Game) (me at : ℕ) (chain : List ℕ) (e : Entry) (more : List ℕ) (r : LogReading) → IsRead e → IsTrue (is_well_formed game me e) →
    step_on r me at (entry_at game me chain (entry_bytes chain e ++ more)) ≡
    record { reader = record { owner = Some me; at = at + length (entry_bytes chain e); chain = chained chain (entry_text e); said = r.said }; answer = Ok (Some e) }
unfolding entry_at
step_passes game me at chain e more r h well =
    let digest : List ℕ = chained chain (entry_text e) in
    let bytes : List ℕ = entry_bytes chain e ++ more in
    let f = is_front chain e more h in
    let len = f.len in
    let whole : is_torn bytes ≡ false = le-ltb (length bytes) (told_len bytes + 35) (omega (arith, length-append (entry_bytes chain e) more)) in
    let chained_so : is_unchained chain bytes ≡ false
    = ap (λ xs. not (bytes_eq (digest_at bytes) (chained chain xs))) f.text ∙ ap (λ xs. not (bytes_eq xs digest)) f.digest ∙ ap not (bytes_same digest) in
    let answer : ℕ → List ℕ → Step = λ n d. record { reader = record { owner = Some me; at = at + n; chain = d; said = r.said }; answer = Ok (Some e) } in
    let owned : step_on r me at (owned_by game me (Some e) (told_len bytes + 35) (digest_at bytes)) ≡ answer (told_len bytes + 35) (digest_at bytes) = rw well refl in
    rw (whole, chained_so) (ap (λ (o : Option Entry). step_on r me at (owned_by game me o (told_len bytes + 35) (digest_at bytes))) (ap entry_of f.text ∙ h) ∙ owned ∙
    ap (λ n. answer n (digest_at bytes)) (sym len) ∙ ap (answer (length (entry_bytes chain e))) f.digest)

-- where no whole entry is chained, nothing more is read
pub step_stops : (game : Game) (log : List ℕ) (me at most : ℕ) (chain bytes : List ℕ) (r : LogReading) → (has_whole bytes && is_chained chain bytes) ≡ false →
    Reads (on game log most (step_on r me at (entry_at game me chain bytes))) [] me
unfolding entry_at
step_stops game log me at most chain bytes r h = elim (cases_lt (length bytes) (told_len bytes + 35)) [
  | inl few ↦
      let torn : is_torn bytes ≡ true = lt-ltb (length bytes) (told_len bytes + 35) few in
      rw torn (refl, refl)
  | inr many ↦
      let two : nat_le 2 (length bytes) ≡ true = le-leb 2 (length bytes) (omega arith) in
      let enough : nat_le (told_len bytes + 35) (length bytes) ≡ true = le-leb (told_len bytes + 35) (length bytes) many in
      let whole : is_torn bytes ≡ false = le-ltb (length bytes) (told_len bytes + 35) many in
      let unchained : is_chained chain bytes ≡ false = rw (two, enough) at h in
      let differs : is_unchained chain bytes ≡ true = ap not unchained in
      rw (whole, differs) (refl, refl)
]

-- ---- the search for a lucky tail

lucky_at : (fuel : ℕ) (chain handed image digest later rest : List ℕ) → has_whole image ≡ true → bytes_eq (take (entry_len image) image) (take (entry_len image) handed) ≡ true →
    digest_at image ≡ digest → drop (entry_len image) handed ≡ later → drop (entry_len image) image ≡ rest →
    lucky_behind (suc fuel) chain handed image ≡ lucky_behind fuel digest later rest
lucky_at fuel chain handed image digest later rest whole same d l r =
    rw (whole, same) (ap (λ x. lucky_behind fuel x (drop (entry_len image) handed) (drop (entry_len image) image)) d ∙
    ap (λ x. lucky_behind fuel digest x (drop (entry_len image) image)) l ∙ ap (lucky_behind fuel digest later) r)

-- it goes on behind an entry that is alike in both
pub lucky_passes : (fuel : ℕ) (chain : List ℕ) (e : Entry) (later rest : List ℕ) → IsRead e →
    lucky_behind (suc fuel) chain (entry_bytes chain e ++ later) (entry_bytes chain e ++ rest) ≡ lucky_behind fuel (chained chain (entry_text e)) later rest
lucky_passes fuel chain e later rest h =
    let front : List ℕ = entry_bytes chain e in
    let image : List ℕ = front ++ rest in
    let n : ℕ = told_len image + 35 in
    let f = is_front chain e rest h in
    let len = f.len in
    let both = length-append front rest in
    let whole : has_whole image ≡ true = and_from _ _ (le-leb 2 (length image) (omega arith)) (le-leb n (length image) (omega arith)) in
    let cut : bytes_eq (take n image) (take n (front ++ later)) ≡ true
    = ap (λ x. bytes_eq x (take n (front ++ later))) (take_at front rest n len) ∙ ap (bytes_eq front) (take_at front later n len) ∙ bytes_same front in
    lucky_at fuel chain (front ++ later) image (chained chain (entry_text e)) later rest whole cut f.digest (drop_at front later n len) (drop_at front rest n len)

-- an entry whose bytes are alike stands at the front of both
pub front_alike : (chain : List ℕ) (e : Entry) (later image : List ℕ) → IsRead e → has_whole image ≡ true →
    take (entry_len image) image ≡ take (entry_len image) (entry_bytes chain e ++ later) → image ≡ entry_bytes chain e ++ drop (entry_len image) image
front_alike chain e later image h whole same =
    let n : ℕ = told_len image + 35 in
    let front : List ℕ = entry_bytes chain e in
    let len = (is_front chain e later h).len in
    let alike : told_len image ≡ told_len (front ++ later) = sym (told_cut n image (omega arith)) ∙ ap told_len same ∙ told_cut n (front ++ later) (omega arith) in
    let cut : take n image ≡ front = same ∙ take_at front later n (omega arith) in
    sym (take-append-drop n image) ∙ ap (λ xs. xs ++ drop n image) cut

-- an entry has bytes
pub no_front : (image : List ℕ) → has_whole image ≡ true → take (entry_len image) image ≡ take (entry_len image) [] → ⊥
no_front image whole same =
    let n : ℕ = told_len image + 35 in
    let enough : n ≤ length image = leb-true n (length image) (and_parts (nat_le 2 (length image)) (nat_le n (length image)) whole).1 in
    let long : length (take n image) ≡ n = length-take-le n image enough in
    let none : length (take {A = ℕ} n []) ≡ 0 = ap length (take_none n) in
    let both = ap (λ (xs : List ℕ). length xs) same in
    omega arith
  where
    take_none : (n : ℕ) → take {A = ℕ} n [] ≡ []
    take_none zero = refl
    take_none (suc n) = refl
