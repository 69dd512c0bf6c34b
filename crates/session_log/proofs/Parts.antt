-- Parts: the bytes of an entry as they come, and what stands there when all came.
use Rattle.std.proofs.Common.{◌≡◌, ◌≤◌, ◌<◌, inl, inr, ℕ, ◌+◌, ◌-◌, min, Bool, true, false, List, [], ◌∷◌, ◌++◌, length, take, drop, refl, sym, ◌∙◌, ap, arith, subst, length-append, append_assoc}
use Rattle.std.specs.Prelude.{not, bytes_eq, if◌then◌else◌}
use Rattle.std.proofs.lemmas.Bool.{cases_lt, false≢true, le-ltb}
use Rattle.std.proofs.lemmas.List.{take_at, take_all, drop_at, length-take, length-drop, append-nil, take-append-drop, take_rest, drop-drop}
use Rattle.std.proofs.Math.Seq.{take-add}
use Rattle.sha2.specs.Hashers.{Holds256}
use Rattle.sha2.specs.Sha256.{sha256}
use Rattle.definitions.specs.World.{Game}
use Rattle.definitions.specs.declared.logs.LogWhy.TheVariants.{BadChain, BadEntry}
use Rattle.session_log.specs.declared.finding.Found.TheVariants.{Bad}
use Rattle.session_log.specs.declared.part.Part.{Part}
use Rattle.session_log.specs.Spelling.{chained}
use Rattle.session_log.specs.Entries.{told_len, entry_of}
use Rattle.session_log.specs.Finding.{text_at, digest_at, is_torn, owned_by, entry_at, found_by}
use Rattle.session_log.specs.Parts.{HoldsBegun, HoldsPart, HoldsText, IsFresh, lacked}
use Rattle.session_log.proofs.Keeping.{front_front}
use Rattle.session_log.proofs.Texts.{entry_of-long, told_cut, told_more}

-- ---- the text grows

pub text_more : (p q : Part) (chain text bytes : List ℕ) → q.text_len ≡ p.text_len + length bytes → take (p.text_len + length bytes) q.kept ≡ take 64 (take p.text_len p.kept ++ bytes) →
    Holds256 q.hasher ((chain ++ text) ++ bytes) → HoldsText p chain text → HoldsText q chain (text ++ bytes)
text_more p q chain text bytes len kept hashed before = record {
  len = len ∙ ap (λ n. n + length bytes) before.len ∙ sym (length-append text bytes);
  kept = ap (λ n. take n q.kept) len ∙ kept ∙ ap (λ xs. take 64 (xs ++ bytes)) before.kept ∙ front_front 64 text bytes;
  hashed = subst (Holds256 q.hasher) (append_assoc chain text bytes) hashed;
}

-- ---- an entry's bytes come

-- a text, and a digest behind it where that is whole
record IsCut (text digest : List ℕ) : Type 0 where
  within : length text ≤ told_len text + 3
  ended : 0 < length digest → length text ≡ told_len text + 3

-- what was taken of the bytes: so many for the text, up to the two that tell its end, and then up to its end, and so many for
-- the digest
record IsTaken (text digest bytes : List ℕ) (end head body tail : ℕ) : Type 0 where
  head_is : head ≡ min (2 - length text) (length bytes)
  told : 2 ≤ length text + head → end ≡ told_len (text ++ take head bytes) + 3
  body_is : body ≡ min (end - (length text + head)) (length bytes - head)
  tail_is : tail ≡ min (32 - length digest) (length bytes - head - body)

abbrev text_then : List ℕ → List ℕ → ℕ → ℕ → List ℕ
text_then text bytes head body = (text ++ take head bytes) ++ take body (drop head bytes)

-- where the digest has begun, the bytes are its own
digest_taken : (text digest bytes : List ℕ) (end head body tail : ℕ) → IsCut text digest → IsTaken text digest bytes end head body tail → 0 < length digest → (head ≡ 0) × (body ≡ 0)
digest_taken text digest bytes end head body tail cut taken some =
    let long = cut.ended some in
    let none : head ≡ 0 = let h = taken.head_is in omega arith in
    let same : told_len (text ++ take head bytes) ≡ told_len text = told_more text (take head bytes) (omega arith) in
    (none, let b = taken.body_is in let t = taken.told (omega arith) in omega arith)

length_head : (bytes : List ℕ) (room head : ℕ) → head ≡ min room (length bytes) → length (take head bytes) ≡ head
length_head bytes room head e = let l = length-take head bytes in omega arith

-- two bytes that tell the end are there, or all came
record HasHead (text digest bytes : List ℕ) (end head body tail : ℕ) : Type 0 where
  told : told_len ((text ++ digest) ++ bytes) ≡ told_len (text ++ take head bytes)
  end_is : end ≡ told_len (text ++ take head bytes) + 3
  within : length text + head ≤ end

has_head : (text bytes : List ℕ) (end head body tail : ℕ) → IsCut text [] → IsTaken text [] bytes end head body tail → 2 ≤ length text + head → HasHead text [] bytes end head body tail
has_head text bytes end head body tail cut taken two =
    let t1 : List ℕ = text ++ take head bytes in
    let h = taken.head_is in
    let head_long : length (take head bytes) ≡ head = length_head bytes (2 - length text) head taken.head_is in
    let long : length t1 ≡ length text + head = length-append text (take head bytes) ∙ ap (λ n. length text + n) head_long in
    let split : (text ++ []) ++ bytes ≡ t1 ++ drop head bytes
    = ap (λ xs. xs ++ bytes) (append-nil text) ∙ ap (λ xs. text ++ xs) (sym (take-append-drop head bytes)) ∙ sym (append_assoc text (take head bytes) (drop head bytes)) in
    let same : told_len ((text ++ []) ++ bytes) ≡ told_len t1 = ap told_len split ∙ told_more t1 (drop head bytes) (omega arith) in
    let end_is : end ≡ told_len t1 + 3 = taken.told two in
    record {
      told = same;
      end_is = end_is;
      within = elim (cases_lt (length text) 2) [
        | inl lt ↦ omega arith
        | inr ge ↦
            let still : told_len t1 ≡ told_len text = told_more text (take head bytes) ge in
            let w = cut.within in omega arith
      ];
    }

-- so many bytes are taken as the entry lacks
taken_count : (text digest bytes : List ℕ) (end head body tail : ℕ) → IsCut text digest → length digest ≤ 32 → IsTaken text digest bytes end head body tail →
    head + body + tail ≡ min (lacked (text ++ digest) bytes) (length bytes)
taken_count text [] bytes end head body tail cut few taken = elim (cases_lt (length text + head) 2) [
  | inl lt ↦
      let h = taken.head_is in let b = taken.body_is in let t = taken.tail_is in let long = length-append text [] in
      omega arith
  | inr ge ↦
      let has = has_head text bytes end head body tail cut taken ge in
      let h = taken.head_is in let b = taken.body_is in let t = taken.tail_is in let long = length-append text [] in
      let told = has.told in let end_is = has.end_is in let within = has.within in
      omega arith
]
taken_count text (d ∷ digest) bytes end head body tail cut few taken =
    let none = digest_taken text (d ∷ digest) bytes end head body tail cut taken (omega arith) in
    let long = length-append text (d ∷ digest) in
    let whole = cut.ended (omega arith) in
    let told : told_len ((text ++ d ∷ digest) ++ bytes) ≡ told_len text = ap told_len (append_assoc text (d ∷ digest) bytes) ∙ told_more text ((d ∷ digest) ++ bytes) (omega arith) in
    let t = taken.tail_is in let n0 = none.0 in let n1 = none.1 in
    omega arith

-- what is taken where the digest has begun
then_none : (text bytes : List ℕ) (head body : ℕ) → head ≡ 0 → body ≡ 0 → text_then text bytes head body ≡ text
then_none text bytes head body p q =
    ap (λ n. text_then text bytes n body) p ∙ ap (λ n. text_then text bytes 0 n) q ∙ append-nil (text ++ []) ∙ append-nil text

drop_none : (bytes : List ℕ) (head body : ℕ) → head ≡ 0 → body ≡ 0 → drop body (drop head bytes) ≡ bytes
drop_none bytes head body p q = ap (λ n. drop body (drop n bytes)) p ∙ ap (λ n. drop n bytes) q

length_then : (text bytes : List ℕ) (room end head body : ℕ) → head ≡ min room (length bytes) → body ≡ min end (length bytes - head) → length (text_then text bytes head body) ≡ length text + head + body
length_then text bytes room end head body h b =
    let one = length-append (text ++ take head bytes) (take body (drop head bytes)) in
    let two = length-append text (take head bytes) in
    let front = length-take head bytes in
    let back = length-take body (drop head bytes) in
    let left = length-drop head bytes in
    omega arith

taken_cut : (text digest bytes : List ℕ) (end head body tail : ℕ) → IsCut text digest → IsTaken text digest bytes end head body tail →
    IsCut (text_then text bytes head body) (digest ++ take tail (drop body (drop head bytes)))
taken_cut text [] bytes end head body tail cut taken =
    let h = taken.head_is in let b = taken.body_is in let t = taken.tail_is in
    let long = length_then text bytes (2 - length text) (end - (length text + head)) head body h b in
    let some = length-take tail (drop body (drop head bytes)) in
    elim (cases_lt (length text + head) 2) [
      | inl lt ↦ record { within = omega arith; ended = λ more. absurd (omega arith) }
      | inr ge ↦
          let has = has_head text bytes end head body tail cut taken ge in
          let front = length_head bytes (2 - length text) head h in
          let two = length-append text (take head bytes) in
          let told : told_len (text_then text bytes head body) ≡ told_len (text ++ take head bytes) = told_more (text ++ take head bytes) (take body (drop head bytes)) (omega arith) in
          let end_is = has.end_is in let within = has.within in
          record { within = omega arith; ended = λ more. omega arith }
    ]
taken_cut text (d ∷ digest) bytes end head body tail cut taken =
    let none = digest_taken text (d ∷ digest) bytes end head body tail cut taken (omega arith) in
    subst (λ (xs : List ℕ). IsCut xs ((d ∷ digest) ++ take tail (drop body (drop head bytes)))) (sym (then_none text bytes head body none.0 none.1))
    (record { within = cut.within; ended = λ more. cut.ended (omega arith) })

take_three : (bytes : List ℕ) (head body tail : ℕ) → take (head + body + tail) bytes ≡ (take head bytes ++ take body (drop head bytes)) ++ take tail (drop body (drop head bytes))
take_three bytes head body tail =
    take-add (head + body) tail bytes ∙ ap (λ xs. xs ++ take tail (drop (head + body) bytes)) (take-add head body bytes)
    ∙ ap (λ xs. (take head bytes ++ take body (drop head bytes)) ++ take tail xs) (sym (drop-drop body head bytes))

taken_all : (text digest bytes : List ℕ) (end head body tail : ℕ) → IsCut text digest → IsTaken text digest bytes end head body tail →
    (text ++ digest) ++ take (head + body + tail) bytes ≡ text_then text bytes head body ++ (digest ++ take tail (drop body (drop head bytes)))
taken_all text [] bytes end head body tail cut taken =
    let one : List ℕ = take head bytes in
    let two : List ℕ = take body (drop head bytes) in
    let three : List ℕ = take tail (drop body (drop head bytes)) in
    ap (λ xs. xs ++ take (head + body + tail) bytes) (append-nil text) ∙ ap (λ xs. text ++ xs) (take_three bytes head body tail)
    ∙ sym (append_assoc text (one ++ two) three) ∙ ap (λ xs. xs ++ three) (sym (append_assoc text one two))
taken_all text (d ∷ digest) bytes end head body tail cut taken =
    let none = digest_taken text (d ∷ digest) bytes end head body tail cut taken (omega arith) in
    let p = none.0 in let q = none.1 in
    let count : head + body + tail ≡ tail = omega arith in
    append_assoc text (d ∷ digest) (take (head + body + tail) bytes)
    ∙ ap (λ n. text ++ ((d ∷ digest) ++ take n bytes)) count
    ∙ ap (λ xs. text ++ ((d ∷ digest) ++ take tail xs)) (sym (drop_none bytes head body p q))
    ∙ ap (λ xs. xs ++ ((d ∷ digest) ++ take tail (drop body (drop head bytes)))) (sym (then_none text bytes head body p q))

-- what the calls of a part leave, by what each takes of the bytes that the one before left
pub record AreSteps (p one two q : Part) (chain bytes rest last : List ℕ) (end head body tail : ℕ) : Type 0 where
  pub head_is : head ≡ min (2 - p.text_len) (length bytes)
  pub head_text : (text : List ℕ) → HoldsText p chain text → HoldsText one chain (text ++ take head bytes)
  pub end_is : end ≡ told_len one.kept + 3
  pub body_is : body ≡ min (end - one.text_len) (length rest)
  pub body_text : (text : List ℕ) → HoldsText one chain text → HoldsText two chain (text ++ take body rest)
  pub same_len : two.digest_len ≡ p.digest_len
  pub same : two.digest ≡ p.digest
  pub tail_is : tail ≡ min (32 - two.digest_len) (length last)
  pub tail_text : (text : List ℕ) → HoldsText two chain text → HoldsText q chain text
  pub digest : take q.digest_len q.digest ≡ take two.digest_len two.digest ++ take tail last
  pub digest_len : q.digest_len ≡ two.digest_len + tail

abbrev StepsBehind : (p one two q : Part) (chain bytes : List ℕ) (end head body tail : ℕ) → Type 0
StepsBehind p one two q chain bytes end head body tail = AreSteps p one two q chain bytes (drop head bytes) (drop body (drop head bytes)) end head body tail

steps_behind : (p one two q : Part) (chain bytes rest last : List ℕ) (end head body tail : ℕ) → rest ≡ drop head bytes → last ≡ drop body rest → AreSteps p one two q chain bytes rest last end head body tail →
    StepsBehind p one two q chain bytes end head body tail
steps_behind p one two q chain bytes rest last end head body tail rest_is last_is steps =
    subst (λ (xs : List ℕ). AreSteps p one two q chain bytes xs (drop body (drop head bytes)) end head body tail) rest_is
    (subst (λ (xs : List ℕ). AreSteps p one two q chain bytes rest xs end head body tail) (last_is ∙ ap (drop body) rest_is) steps)

was_taken : (p one two q : Part) (chain text digest bytes : List ℕ) (end head body tail : ℕ) → StepsBehind p one two q chain bytes end head body tail → HoldsText p chain text →
    p.digest_len ≡ length digest → IsTaken text digest bytes end head body tail
was_taken p one two q chain text digest bytes end head body tail steps of_text long =
    let n = of_text.len in
    let h = steps.head_is in
    let first = steps.head_text text of_text in
    let head_long : length (take head bytes) ≡ head = length_head bytes (2 - p.text_len) head h in
    let both = length-append text (take head bytes) in
    let m = first.len in
    let left = length-drop head bytes in
    let more = length-drop body (drop head bytes) in
    let b = steps.body_is in let t = steps.tail_is in let e = steps.end_is in let s = steps.same_len in
    record {
      head_is = omega arith;
      told = λ two.
          let kept : told_len one.kept ≡ told_len (text ++ take head bytes)
          = sym (told_cut one.text_len one.kept (omega arith)) ∙ ap told_len first.kept ∙ told_cut 64 (text ++ take head bytes) (omega arith) in
          omega arith;
      body_is = omega arith;
      tail_is = omega arith;
    }

part_taken : (p one two q : Part) (chain held bytes rest last : List ℕ) (end head body tail : ℕ) → rest ≡ drop head bytes → last ≡ drop body rest →
    AreSteps p one two q chain bytes rest last end head body tail → HoldsBegun p chain held → HoldsBegun q chain (held ++ take (head + body + tail) bytes)
part_taken p one two q chain held bytes rest last end head body tail rest_is last_is steps part =
    let behind = steps_behind p one two q chain bytes rest last end head body tail rest_is last_is steps in
    let taken = was_taken p one two q chain part.text part.digest bytes end head body tail behind part.of_text part.digest_len in
    let cut : IsCut part.text part.digest = record { within = part.within; ended = part.ended } in
    let next = taken_cut part.text part.digest bytes end head body tail cut taken in
    let end_of : List ℕ = take tail (drop body (drop head bytes)) in
    let t = behind.tail_is in
    let end_long = length-take tail (drop body (drop head bytes)) in
    let both = length-append part.digest end_of in
    let d = steps.digest_len in let e = part.digest_len in let s = steps.same_len in
    record {
      text = text_then part.text bytes head body;
      digest = part.digest ++ end_of;
      all = ap (λ xs. xs ++ take (head + body + tail) bytes) part.all ∙ taken_all part.text part.digest bytes end head body tail cut taken;
      of_text = behind.tail_text _ (behind.body_text _ (behind.head_text part.text part.of_text));
      of_digest = behind.digest ∙ ap (λ n. take n two.digest ++ end_of) steps.same_len ∙ ap (λ xs. take p.digest_len xs ++ end_of) steps.same ∙ ap (λ xs. xs ++ end_of) part.of_digest;
      digest_len = omega arith;
      within = next.within;
      ended = next.ended;
    }

part_count : (p one two q : Part) (chain held bytes rest last : List ℕ) (end head body tail : ℕ) → rest ≡ drop head bytes → last ≡ drop body rest →
    AreSteps p one two q chain bytes rest last end head body tail → HoldsBegun p chain held → p.digest_len ≤ 32 → head + body + tail ≡ min (lacked held bytes) (length bytes)
part_count p one two q chain held bytes rest last end head body tail rest_is last_is steps part few =
    let behind = steps_behind p one two q chain bytes rest last end head body tail rest_is last_is steps in
    let taken = was_taken p one two q chain part.text part.digest bytes end head body tail behind part.of_text part.digest_len in
    let cut : IsCut part.text part.digest = record { within = part.within; ended = part.ended } in
    let e = part.digest_len in
    taken_count part.text part.digest bytes end head body tail cut (omega arith) taken ∙ ap (λ xs. min (lacked xs bytes) (length bytes)) (sym part.all)

pub part_steps : (p one two q : Part) (chain held bytes rest last : List ℕ) (end head body tail : ℕ) → rest ≡ drop head bytes → last ≡ drop body rest →
    AreSteps p one two q chain bytes rest last end head body tail → p.digest_len ≤ 32 → HoldsBegun p chain held →
    (head + body + tail ≡ min (lacked held bytes) (length bytes)) × HoldsBegun q chain (held ++ take (head + body + tail) bytes)
part_steps p one two q chain held bytes rest last end head body tail rest_is last_is steps few part = (
  part_count p one two q chain held bytes rest last end head body tail rest_is last_is steps part few,
  part_taken p one two q chain held bytes rest last end head body tail rest_is last_is steps part,
)

-- ---- all bytes came

-- the entry that these are the bytes of
record IsWhole (held text digest : List ℕ) : Type 0 where
  text_is : text_at held ≡ text
  digest_is : digest_at held ≡ digest
  count : told_len held + 35 ≡ length text + 32
  torn : is_torn held ≡ false

part_whole : (held text digest : List ℕ) → held ≡ text ++ digest → length digest ≡ 32 → length text ≡ told_len text + 3 → IsWhole held text digest
part_whole held text digest all long ended =
    let told : told_len held ≡ told_len text = ap told_len all ∙ told_more text digest (omega arith) in
    let n : length text ≡ told_len held + 3 = omega arith in
    let both = length-append text digest in
    let size = ap length all in
    record {
      text_is = ap (take (told_len held + 3)) all ∙ take_at text digest (told_len held + 3) n;
      digest_is = ap (λ xs. take 32 (drop (told_len held + 3) xs)) all ∙ ap (take 32) (drop_at text digest (told_len held + 3) n) ∙ take_all 32 digest (omega arith);
      count = omega arith;
      torn = le-ltb (length held) (told_len held + 35) (omega arith);
    }

-- a part that has begun, or is fresh, as such
pub begun_holds : (p : Part) (chain held : List ℕ) → p.fresh ≡ false → HoldsBegun p chain held → HoldsPart p chain held
begun_holds p chain held begun part = record { fresh = λ e. absurd (false≢true (sym begun ∙ e)); begun = λ e. part }

pub fresh_holds : (p : Part) (chain : List ℕ) → p.fresh ≡ true → p.digest ≡ chain → p.text_len ≡ 0 → p.digest_len ≡ 0 → HoldsPart p chain []
fresh_holds p chain fresh chained text digest = record {
  fresh = λ e. record { chained = chained; none = refl; text_len = text; digest_len = digest };
  begun = λ e. absurd (false≢true (sym e ∙ fresh));
}

-- less than an entry came, and that is all of the bytes
begun_torn : (p : Part) (chain held : List ℕ) → HoldsBegun p chain held → p.digest_len < 32 → length held < told_len held + 35
begun_torn p chain held part few = by_digest part.text part.digest part.all (let d = part.digest_len in omega arith) part.within part.ended
  where
    by_digest : (text digest : List ℕ) → held ≡ text ++ digest → length digest < 32 → length text ≤ told_len text + 3 → (0 < length digest → length text ≡ told_len text + 3) → length held < told_len held + 35
    by_digest text digest all few within ended =
        let both = length-append text digest in
        let size = ap length all in
        elim (cases_lt (length text) 2) [
          | inl lt ↦ elim (cases_lt 0 (length digest)) [
            | inl some ↦ absurd (let e = ended some in omega arith)
            | inr none ↦ omega arith
          ]
          | inr ge ↦
              let told : told_len held ≡ told_len text = ap told_len all ∙ told_more text digest ge in
              elim (cases_lt 0 (length digest)) [
                | inl some ↦ let e = ended some in omega arith
                | inr none ↦ omega arith
              ]
        ]

pub part_torn : (p : Part) (chain held : List ℕ) → HoldsPart p chain held → p.digest_len < 32 → length held < told_len held + 35
part_torn p chain held part few = go p.fresh refl
  where
    go : (b : Bool) → p.fresh ≡ b → length held < told_len held + 35
    go true e = subst (λ (xs : List ℕ). length xs < told_len xs + 35) (sym (part.fresh e).none) (omega arith)
    go false e = begun_torn p chain held (part.begun e) few

-- all bytes of an entry came, and no more
pub part_full : (p : Part) (chain held : List ℕ) → HoldsBegun p chain held → p.digest_len ≡ 32 → length held ≡ told_len held + 35
part_full p chain held part full =
    let d = part.digest_len in
    let is = part_whole held part.text part.digest part.all (omega arith) (part.ended (omega arith)) in
    let both = length-append part.text part.digest in
    let size = ap length part.all in
    let n = is.count in
    omega arith

-- what stands there, by whether the digest is the one that chains the text
found_so : (game : Game) (me : ℕ) (chain held text digest : List ℕ) → IsWhole held text digest →
    entry_at game me chain held ≡ (if not (bytes_eq digest (chained chain text)) then Bad BadChain else owned_by game me (entry_of text) (length text + 32) digest)
unfolding entry_at
found_so game me chain held text digest is =
    let torn = is.torn in
    rw torn (ap (λ xs. if not (bytes_eq xs (chained chain (text_at held))) then Bad BadChain else owned_by game me (entry_of (text_at held)) (told_len held + 35) xs) is.digest_is
    ∙ ap (λ xs. if not (bytes_eq digest (chained chain xs)) then Bad BadChain else owned_by game me (entry_of xs) (told_len held + 35) digest) is.text_is
    ∙ ap (λ n. if not (bytes_eq digest (chained chain text)) then Bad BadChain else owned_by game me (entry_of text) n digest) is.count)

-- what a part has that came whole
pub record HasCome (game : Game) (me : ℕ) (p : Part) (chain held : List ℕ) : Type 0 where
  pub text : List ℕ
  pub len : p.text_len ≡ length text
  pub kept : take p.text_len p.kept ≡ take 64 text
  pub hashed : Holds256 p.hasher (chain ++ text)
  pub digest_is : digest_at held ≡ p.digest
  pub found : entry_at game me chain held ≡ (if not (bytes_eq p.digest (chained chain text)) then Bad BadChain else owned_by game me (entry_of text) (p.text_len + 32) p.digest)

pub has_come : (game : Game) (me : ℕ) (p : Part) (chain held : List ℕ) → length p.digest ≡ 32 → p.digest_len ≡ 32 → HoldsBegun p chain held → HasCome game me p chain held
has_come game me p chain held size whole part =
    let d = part.digest_len in
    let all : p.digest ≡ part.digest = sym (take_all p.digest_len p.digest (omega arith)) ∙ part.of_digest in
    let is = part_whole held part.text part.digest part.all (omega arith) (part.ended (omega arith)) in
    record {
      text = part.text;
      len = part.of_text.len;
      kept = part.of_text.kept;
      hashed = part.of_text.hashed;
      digest_is = is.digest_is ∙ sym all;
      found = found_so game me chain held part.text part.digest is
          ∙ ap (λ xs. if not (bytes_eq xs (chained chain part.text)) then Bad BadChain else owned_by game me (entry_of part.text) (length part.text + 32) xs) (sym all)
          ∙ ap (λ n. if not (bytes_eq p.digest (chained chain part.text)) then Bad BadChain else owned_by game me (entry_of part.text) (n + 32) p.digest) (sym part.of_text.len);
    }

-- nothing came of the next one
-- the hash that is compared, and the answer
pub record IsCompared (p q : Part) (hash : List ℕ) (same : Bool) : Type 0 where
  pub hashed : (m : List ℕ) → Holds256 p.hasher m → hash ≡ sha256 m
  pub others : q ≡ record p { hasher = q.hasher }
  pub compared : same ≡ bytes_eq q.digest hash

is_compared : (game : Game) (me : ℕ) (p q : Part) (chain held hash : List ℕ) (same : Bool) (come : HasCome game me p chain held) → IsCompared p q hash same → bytes_eq p.digest (chained chain come.text) ≡ same
is_compared game me p q chain held hash same come is =
    ap (bytes_eq p.digest) (sym (is.hashed (chain ++ come.text) come.hashed)) ∙ ap (λ (r : Part). bytes_eq r.digest hash) (sym is.others) ∙ sym is.compared

-- what is found, by whether the digest is the same
pub by_digest : (game : Game) (me : ℕ) (p q : Part) (chain held hash : List ℕ) (same b : Bool) (come : HasCome game me p chain held) → IsCompared p q hash same → same ≡ b →
    (if not b then Bad BadChain else owned_by game me (entry_of come.text) (p.text_len + 32) p.digest) ≡ entry_at game me chain held
by_digest game me p q chain held hash same b come is so =
    let e : bytes_eq p.digest (chained chain come.text) ≡ b = is_compared game me p q chain held hash same come is ∙ so in
    sym (come.found ∙ ap (λ t. if not t then Bad BadChain else owned_by game me (entry_of come.text) (p.text_len + 32) p.digest) e)

-- with the same digest the text is longer than any entry's, or all is there
pub too_long : (game : Game) (me : ℕ) (p q : Part) (chain held hash : List ℕ) (same : Bool) → HasCome game me p chain held → IsCompared p q hash same → same ≡ true → 64 < p.text_len →
    Bad BadEntry ≡ entry_at game me chain held
too_long game me p q chain held hash same come is agrees long =
    let n = come.len in
    ap (λ o. owned_by game me o (p.text_len + 32) p.digest) (sym (entry_of-long come.text (omega arith))) ∙ by_digest game me p q chain held hash same true come is agrees

pub read_whole : (game : Game) (me : ℕ) (p q : Part) (chain held hash : List ℕ) (same : Bool) → HasCome game me p chain held → IsCompared p q hash same → same ≡ true → p.text_len ≤ 64 →
    owned_by game me (entry_of (take p.text_len q.kept)) (p.text_len + 32) q.digest ≡ entry_at game me chain held
read_whole game me p q chain held hash same come is agrees few =
    let n = come.len in
    let text : take p.text_len p.kept ≡ come.text = come.kept ∙ take_all 64 come.text (omega arith) in
    ap (λ (r : Part). owned_by game me (entry_of (take p.text_len r.kept)) (p.text_len + 32) r.digest) is.others
    ∙ ap (λ xs. owned_by game me (entry_of xs) (p.text_len + 32) p.digest) text ∙ by_digest game me p q chain held hash same true come is agrees

pub none_held : (p : Part) (chain : List ℕ) → p.text_len ≡ 0 → p.digest_len ≡ 0 → Holds256 p.hasher chain → HoldsBegun p chain []
none_held p chain text digest hashed = record {
  text = [];
  digest = [];
  all = refl;
  of_text = record { len = text; kept = ap (λ n. take n p.kept) text; hashed = subst (Holds256 p.hasher) (sym (append-nil chain)) hashed };
  of_digest = ap (λ n. take n p.digest) digest;
  digest_len = digest;
  within = omega arith;
  ended = λ some. absurd (omega arith);
}

-- where a fresh one is hashed, it has begun
pub begun_fresh : (p q : Part) (chain held : List ℕ) → IsFresh p chain held → q.text_len ≡ p.text_len → q.digest_len ≡ p.digest_len → Holds256 q.hasher p.digest → HoldsBegun q chain held
begun_fresh p q chain held fresh text digest hashed =
    subst (HoldsBegun q chain) (sym fresh.none) (none_held q chain (text ∙ fresh.text_len) (digest ∙ fresh.digest_len) (subst (Holds256 q.hasher) fresh.chained hashed))

-- behind a whole entry nothing came of the next one
pub next_held : (game : Game) (me : ℕ) (p q : Part) (chain held : List ℕ) → HasCome game me p chain held → q ≡ record p { hasher = q.hasher } →
    HoldsPart (record { kept = q.kept; text_len = 0; digest = q.digest; digest_len = 0; hasher = q.hasher; fresh = true }) (digest_at held) []
next_held game me p q chain held come others = fresh_holds _ (digest_at held) refl (ap (λ (r : Part). r.digest) others ∙ sym come.digest_is) refl refl

-- a whole entry, by the digest that its text should have
pub whole_found : (game : Game) (me : ℕ) (chain bytes hash : List ℕ) → is_torn bytes ≡ false → hash ≡ chained chain (text_at bytes) → found_by game me bytes hash ≡ entry_at game me chain bytes
unfolding entry_at
whole_found game me chain bytes hash whole is = rw whole (ap (found_by game me bytes) is)

-- and so by whether the digest that is stored is that one
pub whole_met : (game : Game) (me : ℕ) (chain bytes hash digest : List ℕ) (same b : Bool) → is_torn bytes ≡ false → hash ≡ chained chain (text_at bytes) → digest ≡ digest_at bytes → same ≡ bytes_eq digest hash → same ≡ b →
    (if not b then Bad BadChain else owned_by game me (entry_of (text_at bytes)) (told_len bytes + 35) (digest_at bytes)) ≡ entry_at game me chain bytes
whole_met game me chain bytes hash digest same b whole is stored compared so =
    let e : bytes_eq (digest_at bytes) hash ≡ b = ap (λ (xs : List ℕ). bytes_eq xs hash) (sym stored) ∙ sym compared ∙ so in
    ap (λ (t : Bool). if not t then Bad BadChain else owned_by game me (entry_of (text_at bytes)) (told_len bytes + 35) (digest_at bytes)) (sym e) ∙ whole_found game me chain bytes hash whole is

-- a digest and the text behind it, where they stand in one piece
pub joined_text : (joined bytes digest : List ℕ) (end : ℕ) → drop 32 joined ≡ bytes → take 32 joined ≡ digest → take (32 + end) joined ≡ digest ++ take end bytes
joined_text joined bytes digest end behind before =
    take-add 32 end joined ∙ ap (λ (xs : List ℕ). xs ++ take end (drop 32 joined)) before ∙ ap (λ (xs : List ℕ). digest ++ take end xs) behind

pub joined_room : (joined bytes : List ℕ) (end : ℕ) → 32 ≤ length joined → drop 32 joined ≡ bytes → end ≤ length bytes → 32 + end ≡ length (take (32 + end) joined)
joined_room joined bytes end some behind few =
    let left = length-drop 32 joined in
    let same = ap length behind in
    let front = length-take (32 + end) joined in
    omega arith

-- the bytes of a piece from the 32 before a place on
pub joined_behind : (piece : List ℕ) (at : ℕ) → 32 ≤ at → drop 32 (take (length piece - (at - 32)) (drop (at - 32) piece)) ≡ drop at piece
joined_behind piece at some =
    let place : at - 32 + 32 ≡ at = omega arith in
    ap (drop 32) (take_rest piece (at - 32)) ∙ drop-drop 32 (at - 32) piece ∙ ap (λ (n : ℕ). drop n piece) place
