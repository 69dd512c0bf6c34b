-- Answers: what a reader answers follows from what its text says.
use Rattle.std.proofs.Common.{◌≡◌, Bool, true, false, Some, Result, Ok, Err, refl, sym, ap, ◌∙◌}
use Rattle.std.specs.Prelude.{IfOk}
use Rattle.text_lines.specs.Reading.{fault_of}
use Rattle.text_lines.specs.Answers.{Fails, Faults, Gives, IsRead, Unless}
use Rattle.text_lines.proofs.Steps.{ok_is}

-- what holds, holds unless
pub unless : (b : Bool) (fact : Type 0) → fact → Unless b fact
unless true fact h = tt
unless false fact h = h

-- and what follows from it
pub unless_then : (b : Bool) (fact other : Type 0) → (fact → other) → Unless b fact → Unless b other
unless_then true fact other f h = tt
unless_then false fact other f h = f h

-- a fault that is said is answered
pub said_fails : {E Y : Type 0} (is_memory : E → Bool) (e : E) (read : Result Y E) → read ≡ Err e → Fails is_memory e read
said_fails is_memory e read h = unless (is_memory e) (read ≡ Err e) h

-- what is read has what holds of all that the text says
pub is_found : {E X : Type 0} (is_memory : E → Bool) (P : X → Type 0) (r said : Result X E) → ((x : X) → said ≡ Ok x → P x) → Gives is_memory (λ x. x) r said → IfOk r P
is_found is_memory P (Ok x) said found given = found x given
is_found is_memory P (Err e) said found given = tt

-- what the text says is read
pub is_read : {E X : Type 0} (is_memory : E → Bool) (memory : E) (r said : Result X E) (x : X) → ((e : E) → is_memory e ≡ true → e ≡ memory) → Gives is_memory (λ x. x) r said → said ≡ Ok x → IsRead memory x r
is_read {E} is_memory memory (Ok y) said x only given is = ok_is {E = E} y x (sym given ∙ is)
is_read {E} {X} is_memory memory (Err e) said x only given is = go (is_memory e) refl given
  where
    apart : said ≡ Err e → ⊥
    apart h = absurd (let both : Err e ≡ Ok x = sym h ∙ is in cc)

    go : (b : Bool) → is_memory e ≡ b → Unless b (said ≡ Err e) → e ≡ memory
    go true is given = only e is
    go false is given = absurd (apart given)

-- the fault of the text is answered
pub faults : {E X : Type 0} (is_memory : E → Bool) (r said : Result X E) → Gives is_memory (λ x. x) r said → Faults is_memory r (fault_of said)
faults is_memory (Ok x) said given = ap fault_of given
faults is_memory (Err e) said given = unless_then (is_memory e) (said ≡ Err e) (fault_of said ≡ Some e) (λ h. ap fault_of h) given
