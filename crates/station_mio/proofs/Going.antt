-- Going: all sockets go on, one after the other.
use Rattle.std.proofs.Common.{◌≡◌, ℕ, zero, suc, ◌+◌, ◌≤◌, List, [], ◌∷◌, ◌++◌, Some, length, take, drop, refl, sym, ap, ◌∙◌, subst, arith}
use Rattle.std.proofs.lemmas.List.{append_assoc, append-nil, length-append, length-take, length-drop, nil_from_length}
use Rattle.std.proofs.lemmas.Option.{slice_get_within}
use Rattle.std.specs.Prelude.{slice_get}
use Rattle.machine_host.specs.Asks.{Ask}
use Rattle.station_mio.specs.Rows.{Stand}
use Rattle.station_mio.specs.Dialling.{GoesOn, GoesOnAll, GoesOnAt}

-- the one at a place is the first of those that are left
first_left : (front back : List Stand) (place : ℕ) (s t : Stand) → place ≡ length front → slice_get (front ++ back) place ≡ Some s →
    (left : List Stand) × (back ≡ s ∷ left) × (take place (front ++ back) ++ t ∷ drop (place + 1) (front ++ back) ≡ front ++ t ∷ left)
first_left [] [] zero s t l e = absurd (cc)
first_left [] (y ∷ back) zero s t l e = (back, (let k : Some y ≡ Some s = e in cc), refl)
first_left [] back (suc place) s t l e = absurd (omega (arith, l))
first_left (x ∷ front) back zero s t l e = absurd (omega (arith, l))
first_left (x ∷ front) back (suc place) s t l e =
    let r = first_left front back place s t (omega (arith, l)) e in
    let on : suc place + 1 ≡ suc (place + 1) = omega arith in
    (r.0, r.1, ap (λ (n : ℕ). x ∷ (take place (front ++ back) ++ t ∷ drop n (x ∷ (front ++ back)))) on ∙ ap (λ (z : List Stand). x ∷ z) r.2)

goes_then : (now : ℕ) (ss ts : List Stand) (s t : Stand) (before middle after : List Ask) → GoesOnAll now ss ts before middle → GoesOn now s t middle after → GoesOnAll now (ss ++ s ∷ []) (ts ++ t ∷ []) before after
goes_then now [] [] s t before middle after w g = (after, subst (λ (x : List Ask). GoesOn now s t x after) w g, refl)
goes_then now [] (u ∷ ts) s t before middle after w g = absurd w
goes_then now (r ∷ ss) [] s t before middle after w g = absurd w
goes_then now (r ∷ ss) (u ∷ ts) s t before middle after w g = (w.0, w.1, goes_then now ss ts s t w.0 middle after w.2 g)

-- so many of the sockets went on
pub record WentOn (now place : ℕ) (ss ts : List Stand) (before after : List Ask) : Type 0 where
  pub front : List Stand
  pub gone : List Stand
  pub left : List Stand
  pub were : ss ≡ front ++ left
  pub are : ts ≡ gone ++ left
  pub many : place ≡ length front
  pub same : place ≡ length gone
  pub goes : GoesOnAll now front gone before after

pub went_none : (now : ℕ) (ss : List Stand) (before : List Ask) → WentOn now 0 ss ss before before
went_none now ss before = record { front = []; gone = []; left = ss; were = refl; are = refl; many = refl; same = refl; goes = refl }

pub went_more : (now place : ℕ) (ss ts us : List Stand) (before middle after : List Ask) → WentOn now place ss ts before middle → GoesOnAt now place ts us middle after → WentOn now (place + 1) ss us before after
went_more now place ss ts us before middle after w g =
    let s = g.0 in
    let t = g.1 in
    let r = first_left w.gone w.left place s t w.same (ap (λ (x : List Stand). slice_get x place) (sym w.are) ∙ g.2) in
    let many = w.many in
    let same = w.same in
    let a = length-append w.front (s ∷ []) in
    let b = length-append w.gone (t ∷ []) in
    record {
      front = w.front ++ s ∷ [];
      gone = w.gone ++ t ∷ [];
      left = r.0;
      were = w.were ∙ ap (λ (x : List Stand). w.front ++ x) r.1 ∙ sym (append_assoc w.front (s ∷ []) r.0);
      are = g.3 ∙ ap (λ (x : List Stand). take place x ++ t ∷ drop (place + 1) x) w.are ∙ r.2 ∙ sym (append_assoc w.gone (t ∷ []) r.0);
      many = omega (arith, many, a);
      same = omega (arith, same, b);
      goes = goes_then now w.front w.gone s t before middle after w.goes g.4;
    }

pub went_all : (now place : ℕ) (ss ts : List Stand) (before after : List Ask) → WentOn now place ss ts before after → length ts ≤ place → GoesOnAll now ss ts before after
went_all now place ss ts before after w end =
    let same = w.same in
    let sum = ap (λ (x : List Stand). length x) w.are ∙ length-append w.gone w.left in
    let none : w.left ≡ [] = nil_from_length w.left (omega (arith, same, sum, end)) in
    subst (λ (x : List Stand). GoesOnAll now x ts before after) (sym (w.were ∙ ap (λ (x : List Stand). w.front ++ x) none ∙ append-nil w.front))
    (subst (λ (x : List Stand). GoesOnAll now w.front x before after) (sym (w.are ∙ ap (λ (x : List Stand). w.gone ++ x) none ∙ append-nil w.gone)) w.goes)

-- there are as many as before
pub changed_length : (now place : ℕ) (ss ts : List Stand) (before after : List Ask) → GoesOnAt now place ss ts before after → length ts ≡ length ss
changed_length now place ss ts before after g =
    let few = slice_get_within ss place g.0 g.2 in
    let a = length-append (take place ss) (g.1 ∷ drop (place + 1) ss) in
    let b = length-take place ss in
    let d = length-drop (place + 1) ss in
    ap (λ (x : List Stand). length x) g.3 ∙ omega (arith, a, b, d, few)
