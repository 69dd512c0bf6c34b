-- Found: what stands where an entry begins, in words.
use Rattle.std.proofs.Common.{◌≡◌, ◌≤◌, ◌⊎◌, inl, inr, ℕ, ◌+◌, ◌<◌, Bool, true, false, cond, List, [], ◌∷◌, ◌++◌, length, take, drop, refl, sym, ◌∙◌, ap, arith, subst, length-append, append_assoc}
use Rattle.std.specs.Prelude.{Option, Some, None, not, bytes_eq, IsTrue}
use Rattle.std.specs.Cmp.Lexicographic.{same_text}
use Rattle.std.proofs.Math.Seq.{take-add}
use Rattle.std.proofs.lemmas.Bool.{and_from, eq-eqb, le-ltb, ltb-false, not-false}
use Rattle.std.proofs.lemmas.List.{take_at, drop_at, take-append-le, drop-append-le, length-drop}
use Rattle.sha2.specs.Sha256.{sha256, digest_bytes}
use Rattle.definitions.specs.declared.logs.Entry.{Entry}
use Rattle.definitions.specs.declared.logs.LogWhy.TheVariants.{BadChain, BadEntry}
use Rattle.definitions.specs.Entries.{is_well_formed}
use Rattle.definitions.specs.World.{Game}
use Rattle.session_log.specs.declared.finding.Found.{Found}
use Rattle.session_log.specs.declared.finding.Found.TheVariants.{Torn, Bad, Whole}
use Rattle.session_log.specs.Spelling.{body_of, entry_text, chained, entry_bytes, FitsEntry}
use Rattle.session_log.specs.Entries.{told_len, entry_of}
use Rattle.session_log.specs.Finding.{text_at, digest_at, is_torn, is_unchained, owned_by, entry_at}
use Rattle.session_log.specs.Laws.{AreBytes}
use Rattle.session_log.proofs.Texts.{entry_read, entry_spelled, told_len-text, told_more, length-entry_text}
use Rattle.plain_lemmas.proofs.Lists.{take_bytes}

pub length-sha256 : (m : List ℕ) → length (sha256 m) ≡ 32
unfolding sha256 digest_bytes
length-sha256 m = refl

-- the same bytes are equal
bytes_same : (xs : List ℕ) → bytes_eq xs xs ≡ true
bytes_same [] = refl
bytes_same (x ∷ xs) = and_from _ _ (eq-eqb x x refl) (bytes_same xs)

-- ---- an entry that stands there is found

pub entry_found : (game : Game) (me : ℕ) (chain : List ℕ) (e : Entry) (more : List ℕ) → FitsEntry e → IsTrue (is_well_formed game me e) →
    entry_at game me chain (entry_bytes chain e ++ more) ≡ Whole e (length (entry_bytes chain e)) (chained chain (entry_text e))
unfolding entry_at
entry_found game me chain e more fits well =
    let text : List ℕ = entry_text e in
    let digest : List ℕ = chained chain text in
    let bytes : List ℕ = (text ++ digest) ++ more in
    let joined : bytes ≡ text ++ (digest ++ more) = append_assoc text digest more in
    let told : told_len bytes ≡ length (body_of e) = ap told_len joined ∙ told_len-text e (digest ++ more) fits in
    let long : length text ≡ told_len bytes + 3 = length-entry_text e ∙ ap (λ n. n + 3) (sym told) in
    let hashed : length digest ≡ 32 = length-sha256 (chain ++ text) in
    let is_text : text_at bytes ≡ text = ap (take (told_len bytes + 3)) joined ∙ take_at text (digest ++ more) (told_len bytes + 3) long in
    let is_digest : digest_at bytes ≡ digest
    = ap (λ xs. take 32 (drop (told_len bytes + 3) xs)) joined ∙ ap (take 32) (drop_at text (digest ++ more) (told_len bytes + 3) long) ∙ take_at digest more 32 hashed in
    let count : told_len bytes + 35 ≡ length (text ++ digest) = omega (arith, length-append text digest) in
    let whole : is_torn bytes ≡ false = le-ltb (length bytes) (told_len bytes + 35) (omega (arith, length-append (text ++ digest) more)) in
    let chained_so : is_unchained chain bytes ≡ false
    = ap (λ xs. not (bytes_eq (digest_at bytes) (chained chain xs))) is_text ∙ ap (λ xs. not (bytes_eq xs digest)) is_digest ∙ ap not (bytes_same digest) in
    let read : entry_of (text_at bytes) ≡ Some e = ap entry_of is_text ∙ entry_read e fits in
    let last : owned_by game me (entry_of (text_at bytes)) (told_len bytes + 35) (digest_at bytes) ≡ Whole e (length (text ++ digest)) digest
    = ap (λ o. owned_by game me o (told_len bytes + 35) (digest_at bytes)) read ∙ ap (λ b. cond b (Whole e (told_len bytes + 35) (digest_at bytes)) (Bad BadEntry)) well ∙
    ap (λ n. Whole e n (digest_at bytes)) count ∙ ap (λ xs. Whole e (length (text ++ digest)) xs) is_digest in
    rw (whole, chained_so) last

-- ---- an entry that is found stands there

pub record IsFound (game : Game) (me : ℕ) (chain bytes : List ℕ) (e : Entry) (count : ℕ) (digest : List ℕ) : Type 0 where
  pub is_text : entry_bytes chain e ≡ take count bytes
  pub is_digest : digest ≡ chained chain (entry_text e)
  pub well : IsTrue (is_well_formed game me e)
  pub fits : count ≤ length bytes
  pub some : 0 < count

-- where a fault is tried first and an entry is found, the fault isn't there
tried_not : (b : Bool) (fault x : Found) (e : Entry) (count : ℕ) (digest : List ℕ) → (fault ≡ Whole e count digest → ⊥) → cond b fault x ≡ Whole e count digest → (b ≡ false) × (x ≡ Whole e count digest)
tried_not true fault x e count digest other q = absurd (other q)
tried_not false fault x e count digest other q = (refl, q)

-- what is owned was read
record IsOwned (game : Game) (me : ℕ) (o : Option Entry) (n : ℕ) (d : List ℕ) (e : Entry) (count : ℕ) (digest : List ℕ) : Type 0 where
  read : o ≡ Some e
  well : IsTrue (is_well_formed game me e)
  counted : n ≡ count
  same : d ≡ digest

owned_so : (game : Game) (me : ℕ) (o : Option Entry) (n : ℕ) (d : List ℕ) (e : Entry) (count : ℕ) (digest : List ℕ) → owned_by game me o n d ≡ Whole e count digest → IsOwned game me o n d e count digest
owned_so game me None n d e count digest q = absurd cc
owned_so game me (Some f) n d e count digest q = go (is_well_formed game me f) refl q
  where
    go : (b : Bool) → is_well_formed game me f ≡ b → cond b (Whole f n d) (Bad BadEntry) ≡ Whole e count digest → IsOwned game me (Some f) n d e count digest
    go false t h = absurd cc
    go true t h =
        let same : f ≡ e = cc in
        record { read = ap (λ (x : Entry). Some x) same; well = subst (λ (x : Entry). is_well_formed game me x ≡ true) same t; counted = cc; same = cc }

pub found_stands : (game : Game) (me : ℕ) (chain bytes : List ℕ) (e : Entry) (count : ℕ) (digest : List ℕ) → AreBytes bytes → entry_at game me chain bytes ≡ Whole e count digest →
    IsFound game me chain bytes e count digest
unfolding entry_at
found_stands game me chain bytes e count digest b q =
    let whole = tried_not (is_torn bytes) Torn _ e count digest (λ t. cc) q in
    let linked = tried_not (is_unchained chain bytes) (Bad BadChain) _ e count digest (λ b. cc) whole.1 in
    let o = owned_so game me (entry_of (text_at bytes)) (told_len bytes + 35) (digest_at bytes) e count digest linked.1 in
    let n : ℕ = told_len bytes + 3 in
    let text : entry_text e ≡ text_at bytes = entry_spelled (text_at bytes) e (take_bytes n bytes b) o.read in
    let equal : digest_at bytes ≡ chained chain (text_at bytes) = same_text (digest_at bytes) (chained chain (text_at bytes)) (sym (not-false _ linked.0)) in
    let all : n + 32 ≡ count = let c = o.counted in omega arith in
    let long = ltb-false (length bytes) (told_len bytes + 35) whole.0 in
    record {
      is_text = ap (λ xs. xs ++ chained chain xs) text ∙ ap (λ xs. text_at bytes ++ xs) (sym equal) ∙ sym (take-add n 32 bytes) ∙ ap (λ k. take k bytes) all;
      is_digest = sym o.same ∙ equal ∙ ap (chained chain) (sym text);
      well = o.well;
      fits = let c = o.counted in omega arith;
      some = omega arith;
    }

-- the number of an entry's bytes, and its digest
pub found_count : (game : Game) (me : ℕ) (chain bytes : List ℕ) (e : Entry) (count : ℕ) (digest : List ℕ) → entry_at game me chain bytes ≡ Whole e count digest →
    (count ≡ told_len bytes + 35) × (digest ≡ digest_at bytes)
unfolding entry_at
found_count game me chain bytes e count digest q =
    let whole = tried_not (is_torn bytes) Torn _ e count digest (λ t. cc) q in
    let linked = tried_not (is_unchained chain bytes) (Bad BadChain) _ e count digest (λ b. cc) whole.1 in
    let o = owned_so game me (entry_of (text_at bytes)) (told_len bytes + 35) (digest_at bytes) e count digest linked.1 in
    (sym o.counted, sym o.same)

-- ---- what stands there, where more bytes follow

owned_not_torn : (game : Game) (me : ℕ) (o : Option Entry) (n : ℕ) (d : List ℕ) → owned_by game me o n d ≡ Torn → ⊥
owned_not_torn game me None n d q = absurd cc
owned_not_torn game me (Some f) n d q = go (is_well_formed game me f) q
  where
    go : (b : Bool) → cond b (Whole f n d) (Bad BadEntry) ≡ Torn → ⊥
    go true h = absurd cc
    go false h = absurd cc

untorn : (b c : Bool) (x : Found) → (x ≡ Torn → ⊥) → cond b Torn (cond c (Bad BadChain) x) ≡ Torn → b ≡ true
untorn true c x other q = refl
untorn false true x other q = absurd cc
untorn false false x other q = absurd (other q)

-- less than an entry stands there exactly where the bytes end before it does
pub torn_found : (game : Game) (me : ℕ) (chain bytes : List ℕ) → entry_at game me chain bytes ≡ Torn → is_torn bytes ≡ true
unfolding entry_at
torn_found game me chain bytes q = untorn (is_torn bytes) (is_unchained chain bytes) _ (owned_not_torn game me (entry_of (text_at bytes)) (told_len bytes + 35) (digest_at bytes)) q

pub found_torn : (game : Game) (me : ℕ) (chain bytes : List ℕ) → is_torn bytes ≡ true → entry_at game me chain bytes ≡ Torn
unfolding entry_at
found_torn game me chain bytes t = rw t refl

-- where an entry's bytes are there, it doesn't matter what follows
pub digest_more : (bytes rest : List ℕ) → is_torn bytes ≡ false → digest_at (bytes ++ rest) ≡ digest_at bytes
digest_more bytes rest whole =
    let long : told_len bytes + 35 ≤ length bytes = ltb-false (length bytes) (told_len bytes + 35) whole in
    let told : told_len (bytes ++ rest) ≡ told_len bytes = told_more bytes rest (omega arith) in
    let left = length-drop (told_len bytes + 3) bytes in
    ap (λ n. take 32 (drop (n + 3) (bytes ++ rest))) told ∙ ap (take 32) (drop-append-le (told_len bytes + 3) bytes rest (omega arith)) ∙ take-append-le 32 (drop (told_len bytes + 3) bytes) rest (omega arith)

pub found_more : (game : Game) (me : ℕ) (chain bytes rest : List ℕ) → is_torn bytes ≡ false → entry_at game me chain (bytes ++ rest) ≡ entry_at game me chain bytes
unfolding entry_at
found_more game me chain bytes rest whole =
    let long : told_len bytes + 35 ≤ length bytes = ltb-false (length bytes) (told_len bytes + 35) whole in
    let both = length-append bytes rest in
    let told : told_len (bytes ++ rest) ≡ told_len bytes = told_more bytes rest (omega arith) in
    let still : is_torn (bytes ++ rest) ≡ false = le-ltb (length (bytes ++ rest)) (told_len (bytes ++ rest) + 35) (omega arith) in
    let text : text_at (bytes ++ rest) ≡ text_at bytes = ap (λ n. take (n + 3) (bytes ++ rest)) told ∙ take-append-le (told_len bytes + 3) bytes rest (omega arith) in
    let digest : digest_at (bytes ++ rest) ≡ digest_at bytes = digest_more bytes rest whole in
    let linked : is_unchained chain (bytes ++ rest) ≡ is_unchained chain bytes
    = ap (λ xs. not (bytes_eq xs (chained chain (text_at (bytes ++ rest))))) digest ∙ ap (λ xs. not (bytes_eq (digest_at bytes) (chained chain xs))) text in
    rw (still, whole) (ap (λ b. cond b (Bad BadChain) (owned_by game me (entry_of (text_at (bytes ++ rest))) (told_len (bytes ++ rest) + 35) (digest_at (bytes ++ rest)))) linked
    ∙ ap (λ xs. cond (is_unchained chain bytes) (Bad BadChain) (owned_by game me (entry_of xs) (told_len (bytes ++ rest) + 35) (digest_at (bytes ++ rest)))) text
    ∙ ap (λ n. cond (is_unchained chain bytes) (Bad BadChain) (owned_by game me (entry_of (text_at bytes)) (n + 35) (digest_at (bytes ++ rest)))) told
    ∙ ap (λ xs. cond (is_unchained chain bytes) (Bad BadChain) (owned_by game me (entry_of (text_at bytes)) (told_len bytes + 35) xs)) digest)

-- ---- why an entry that stands there can't be used

-- a reader names two causes
abbrev pub IsWhy : Found → Type 0
IsWhy Torn = Unit {0}
IsWhy (Bad why) = (why ≡ BadChain) ⊎ (why ≡ BadEntry)
IsWhy (Whole e count digest) = Unit {0}

owned_why : (game : Game) (me : ℕ) (o : Option Entry) (n : ℕ) (d : List ℕ) → IsWhy (owned_by game me o n d)
owned_why game me None n d = inr refl
owned_why game me (Some f) n d = go (is_well_formed game me f)
  where
    go : (b : Bool) → IsWhy (cond b (Whole f n d) (Bad BadEntry))
    go true = tt
    go false = inr refl

pub found_why : (game : Game) (me : ℕ) (chain bytes : List ℕ) → IsWhy (entry_at game me chain bytes)
unfolding entry_at
found_why game me chain bytes = go (is_torn bytes) (is_unchained chain bytes)
  where
    go : (torn unchained : Bool) → IsWhy (cond torn Torn (cond unchained (Bad BadChain) (owned_by game me (entry_of (text_at bytes)) (told_len bytes + 35) (digest_at bytes))))
    go true unchained = tt
    go false true = inl refl
    go false false = owned_why game me (entry_of (text_at bytes)) (told_len bytes + 35) (digest_at bytes)
