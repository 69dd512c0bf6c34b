-- Appended: bytes are appended piece by piece.
use Rattle.std.proofs.Common.{◌≡◌, inl, inr, ◌<◌, ℕ, Some, None, arith, true, false, List, [], ◌∷◌, ◌++◌, take, drop, length, refl, sym, ap, ◌∙◌, subst}
use Rattle.std.specs.Prelude.{Result, Ok, Err}
use Rattle.std.proofs.lemmas.List.{append_assoc, append-nil, length-drop, take-append-drop}
use Rattle.std.proofs.lemmas.Grind.{flat_map-append}
use Rattle.machine_host.specs.declared.faults.HostFault.{HostFault}
use Rattle.machine_host.specs.Asks as A
use Rattle.machine_host.specs.Asks.{Ask}
use Rattle.host_log.specs.Files.{AppendsAll, AppendsSome, AreAppends, appended_at, appended_in}

-- so much is left to be appended
pub record AppendedSo (bytes rest : List ℕ) (before after : List Ask) : Type 0 where
  pub more : List Ask
  pub asked : after ≡ before ++ more
  pub only : AreAppends more
  pub front : bytes ≡ appended_in more ++ rest

pub appended_none : (bytes : List ℕ) (before : List Ask) → AppendedSo bytes bytes before before
appended_none bytes before = record { more = []; asked = sym (append-nil before); only = tt; front = refl }

only_then : (more : List Ask) (bytes : List ℕ) (answer : Result ℕ HostFault) → AreAppends more → AreAppends (more ++ A.Appended bytes answer ∷ [])
only_then [] bytes answer w = tt
only_then (A.Appended b r ∷ more) bytes answer w = only_then more bytes answer w
only_then (_ ∷ more) bytes answer w = absurd w

in_then : (more : List Ask) (ask : Ask) → appended_in (more ++ ask ∷ []) ≡ appended_in more ++ appended_at ask
in_then more ask = flat_map-append appended_at more (ask ∷ []) ∙ ap (λ (x : List ℕ). appended_in more ++ x) (append-nil (appended_at ask))

-- one more piece
pub appended_more : (bytes rest : List ℕ) (before middle after : List Ask) (count : ℕ) → AppendedSo bytes rest before middle → after ≡ middle ++ A.Appended rest (Ok count) ∷ [] → AppendedSo bytes (drop count rest) before after
appended_more bytes rest before middle after count w e = record {
  more = w.more ++ A.Appended rest (Ok count) ∷ [];
  asked = e ∙ ap (λ (x : List Ask). x ++ A.Appended rest (Ok count) ∷ []) w.asked ∙ append_assoc before w.more (A.Appended rest (Ok count) ∷ []);
  only = only_then w.more rest (Ok count) w.only;
  front = w.front ∙ ap (λ (x : List ℕ). appended_in w.more ++ x) (sym (take-append-drop count rest)) ∙ sym (append_assoc (appended_in w.more) (take count rest) (drop count rest)) ∙
      ap (λ (x : List ℕ). x ++ drop count rest) (sym (in_then w.more (A.Appended rest (Ok count))));
}

-- all of them
pub appended_all : (bytes : List ℕ) (before after : List Ask) → AppendedSo bytes [] before after → AppendsAll bytes true before after
appended_all bytes before after w = record { more = w.more; asked = w.asked; only = w.only; rest = []; front = w.front; all = λ e. refl; stuck = λ x. absurd (cc) }

-- the machine failed in the next one
pub appended_failed : (bytes rest : List ℕ) (before middle after : List Ask) (fault : HostFault) → AppendedSo bytes rest before middle → after ≡ middle ++ A.Appended rest (Err fault) ∷ [] → AppendsAll bytes false before after
appended_failed bytes rest before middle after fault w e = record {
  more = w.more ++ A.Appended rest (Err fault) ∷ [];
  asked = e ∙ ap (λ (x : List Ask). x ++ A.Appended rest (Err fault) ∷ []) w.asked ∙ append_assoc before w.more (A.Appended rest (Err fault) ∷ []);
  only = only_then w.more rest (Err fault) w.only;
  rest = rest;
  front = w.front ∙ ap (λ (x : List ℕ). x ++ rest) (sym (append-nil (appended_in w.more)) ∙ sym (in_then w.more (A.Appended rest (Err fault))));
  all = λ x. absurd (cc);
  stuck = λ x. (w.more, Err fault, refl, tt);
}

-- or took nothing
pub appended_stuck : (bytes rest : List ℕ) (before middle after : List Ask) → AppendedSo bytes rest before middle → after ≡ middle ++ A.Appended rest (Ok 0) ∷ [] → AppendsAll bytes false before after
unfolding appended_more
appended_stuck bytes rest before middle after w e =
    let m = appended_more bytes rest before middle after 0 w e in
    record { more = m.more; asked = m.asked; only = m.only; rest = rest; front = m.front; all = λ x. absurd (cc); stuck = λ x. (w.more, Ok 0, refl, refl) }

-- one more step, or the end
pub appended_step : (bytes rest left : List ℕ) (before middle after : List Ask) → AppendedSo bytes rest before middle → AppendsSome rest (Some left) middle after → AppendedSo bytes left before after
appended_step bytes rest left before middle after w e =
    subst (λ (x : List ℕ). AppendedSo bytes x before after) (sym e.3) (appended_more bytes rest before middle after e.0 w e.4)

pub appended_shorter : (rest left : List ℕ) (middle after : List Ask) → AppendsSome rest (Some left) middle after → length left < length rest
appended_shorter rest left middle after e =
    let some = e.1 in
    let few = e.2 in
    let len = ap (λ (x : List ℕ). length x) e.3 ∙ length-drop e.0 rest in
    omega (arith, some, few, len)

pub appended_end : (bytes rest : List ℕ) (before middle after : List Ask) → AppendedSo bytes rest before middle → AppendsSome rest None middle after → AppendsAll bytes false before after
appended_end bytes rest before middle after w (inl e) = appended_stuck bytes rest before middle after w e
appended_end bytes rest before middle after w (inr e) = appended_failed bytes rest before middle after e.0 w e.1
