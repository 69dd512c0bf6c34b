-- Parts: datagrams whose bytes stand one behind the other.
use Rattle.std.proofs.Common.{◌≡◌, ℕ, ◌+◌, ◌≤◌, ◌<◌, List, [], ◌∷◌, ◌++◌, length, take, drop, map, refl, ap, ◌∙◌, arith, zero, suc, get_or}
use Rattle.std.specs.Prelude.{Some, slice_get}
use Rattle.std.proofs.lemmas.Grind.{common_steps}
use Rattle.std.proofs.lemmas.List.{take-append-le, drop-append-le, map-append}
use Rattle.std.proofs.Math.Seq.{take-length, drop-append_seam}
use Rattle.datagram_post.specs.Moved.{Mail}
use Rattle.memory_post.specs.declared.mails.Part.{Part}
use Rattle.memory_post.specs.HeldMails.{mail_of, AreWithin}

-- a part of a list stays after an append
slice-kept : {A : Type 0} (at len : ℕ) (xs ys : List A) → at + len ≤ length xs → take len (drop at (xs ++ ys)) ≡ take len (drop at xs)
slice-kept at len xs ys h =
    ap (take len) (drop-append-le at xs ys (omega arith)) ∙ take-append-le len (drop at xs) ys (grind (arith, common_steps))

-- what was appended is the last part
slice-last : {A : Type 0} (xs ys : List A) → take (length ys) (drop (length xs) (xs ++ ys)) ≡ ys
slice-last xs ys = ap (take (length ys)) (drop-append_seam xs ys) ∙ take-length ys

-- parts stay within more bytes, and so does one more there
pub within-push : (n m : ℕ) (parts : List Part) (p : Part) → AreWithin n parts → n ≤ m → p.at + p.len ≤ m → AreWithin m (parts ++ p ∷ [])
within-push n m [] p w h e = (e, tt)
within-push n m (x ∷ parts) p w h e = (omega (arith, w.0), within-push n m parts p w.1 h e)

-- the datagrams stay as bytes are appended
mails-kept : (bytes more : List ℕ) (parts : List Part) → AreWithin (length bytes) parts → map (mail_of (bytes ++ more)) parts ≡ map (mail_of bytes) parts
mails-kept bytes more [] w = refl
mails-kept bytes more (p ∷ parts) w =
    ap (λ (b : List ℕ). record { to = p.to; bytes = b } ∷ map (mail_of (bytes ++ more)) parts) (slice-kept p.at p.len bytes more w.0)
    ∙ ap (λ ms. mail_of bytes p ∷ ms) (mails-kept bytes more parts w.1)

-- the datagrams with one more
pub mails-push : (bytes more : List ℕ) (parts : List Part) (p : Part) → AreWithin (length bytes) parts → p.at ≡ length bytes → p.len ≡ length more
    → map (mail_of (bytes ++ more)) (parts ++ p ∷ []) ≡ map (mail_of bytes) parts ++ record { to = p.to; bytes = more } ∷ []
mails-push bytes more parts p w a l =
    let last : take p.len (drop p.at (bytes ++ more)) ≡ more = ap (λ k. take k (drop p.at (bytes ++ more))) l ∙ (ap (λ k. take (length more) (drop k (bytes ++ more))) a ∙ slice-last bytes more) in
    map-append (mail_of (bytes ++ more)) parts (p ∷ [])
    ∙ (ap (λ ms. ms ++ mail_of (bytes ++ more) p ∷ []) (mails-kept bytes more parts w)
    ∙ ap (λ (b : List ℕ). map (mail_of bytes) parts ++ record { to = p.to; bytes = b } ∷ []) last)

-- each part stands within
pub within-at : (n : ℕ) (parts : List Part) (k : ℕ) (d : Part) → AreWithin n parts → k < length parts → (get_or parts k d).at + (get_or parts k d).len ≤ n
within-at n [] k d w lt = absurd (omega (arith, lt))
within-at n (x ∷ parts) zero d w lt = w.0
within-at n (x ∷ parts) (suc k) d w lt = within-at n parts k d w.1 (omega (arith, lt))

-- the datagram of a part
pub mail-at : (bytes : List ℕ) (parts : List Part) (k : ℕ) (d : Part) (m : Mail) → k < length parts → slice_get (map (mail_of bytes) parts) k ≡ Some m → mail_of bytes (get_or parts k d) ≡ m
mail-at bytes [] k d m lt f = absurd (omega (arith, lt))
mail-at bytes (x ∷ parts) zero d m lt f = cc
mail-at bytes (x ∷ parts) (suc k) d m lt f = mail-at bytes parts k d m (omega (arith, lt)) f

pub few-parts : (bytes : List ℕ) (parts : List Part) → length (map (mail_of bytes) parts) ≡ length parts
few-parts bytes [] = refl
few-parts bytes (x ∷ parts) = (let h = few-parts bytes parts in omega (arith, h))
