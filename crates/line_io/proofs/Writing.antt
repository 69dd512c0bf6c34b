-- A text that is written piece by piece.
use Rattle.std.proofs.Common.{◌≡◌, ℕ, ◌+◌, ◌<◌, ◌≤◌, List, [], ◌++◌, length, take, refl, ap, sym, ◌∙◌, subst, append_assoc, append-nil, length-append, arith}
use Rattle.std.proofs.lemmas.List.{take-append-le}
use Rattle.std.proofs.Math.Seq.{take-append_seam}
use Rattle.std.specs.Prelude.{Result, Ok, Err, IsErr, true, false}
use Rattle.station.specs.Outside.{one_more}
use Rattle.station.specs.Sinks.{SinkState, after_bytes}
use Rattle.line_io.specs.Texts.{CutShort, Puts, Underway}
use Rattle.line_io.specs.declared.texts.SinkFault.{SinkFault}

-- nothing is written, and one text behind another
pub bytes_none : (s : SinkState) → after_bytes s [] ≡ s
bytes_none s = ap (λ h. let t : SinkState = record { held = h; faults = s.faults } in t) (append-nil s.held)

pub bytes_both : (s : SinkState) (t u : List ℕ) → after_bytes (after_bytes s t) u ≡ after_bytes s (t ++ u)
bytes_both s t u = ap (λ h. let t : SinkState = record { held = h; faults = s.faults } in t) (append_assoc s.held t u)

-- a text was written, and this is to come
pub underway_by : (before now : SinkState) (text rest : List ℕ) → now ≡ after_bytes before text → Underway before now (text ++ rest) rest
underway_by before now text rest e = record {
  longer = omega (arith, length-append before.held text, ap (λ (s : SinkState). length s.held) e);
  whole = ap (λ s. after_bytes s rest) e ∙ bytes_both before text rest;
}

-- one stretch behind another
pub underway_on : (a b c : SinkState) (t u v : List ℕ) → Underway a b t u → Underway b c u v → Underway a c t v
underway_on a b c t u v p q = record { longer = omega (arith, p.longer, q.longer); whole = q.whole ∙ p.whole }

-- a piece was written
pub underway_more : (before mid now : SinkState) (text rest piece more : List ℕ) → Underway before mid text rest → rest ≡ piece ++ more → now ≡ after_bytes mid piece → Underway before now text more
underway_more before mid now text rest piece more u e w =
    underway_on before mid now text rest more u (subst (λ (r : List ℕ). Underway mid now r more) (sym e) (underway_by mid now piece more w))

-- all is written
pub underway_end : (before now : SinkState) (text rest : List ℕ) → Underway before now text rest → rest ≡ [] → now ≡ after_bytes before text
underway_end before now text rest u e = sym (bytes_none now) ∙ ap (after_bytes now) (sym e) ∙ u.whole

-- the sink failed in a piece: `more` is what is to come behind the piece
pub underway_cut : (before mid now : SinkState) (text rest piece more : List ℕ) → Underway before mid text rest → rest ≡ piece ++ more → CutShort mid now piece → CutShort before now text
underway_cut before mid now text rest piece more u e c =
    let held : mid.held ++ rest ≡ before.held ++ text = ap (λ (s : SinkState). s.held) u.whole in
    let long : length mid.held + length rest ≡ length before.held + length text = omega (arith, length-append mid.held rest, length-append before.held text, ap length held) in
    let split : length rest ≡ length piece + length more = omega (arith, length-append piece more, ap length e) in
    let all : (mid.held ++ piece) ++ more ≡ before.held ++ text = append_assoc mid.held piece more ∙ ap (λ x. mid.held ++ x) (sym e) ∙ held in
    let within : length now.held ≤ length (mid.held ++ piece) = omega (arith, length-append mid.held piece, c.between.shorter) in
    record {
      between = record {
        longer = omega (arith, u.longer, c.between.longer);
        shorter = omega (arith, c.between.shorter);
        within = ap (take (length now.held)) (sym all) ∙ take-append-le (length now.held) (mid.held ++ piece) more within ∙ c.between.within;
      };
      rose = c.rose ∙ ap (λ (s : SinkState). one_more s.faults) u.whole;
    }

-- the sink failed in all that was to come
pub underway_ends : (before mid now : SinkState) (text rest : List ℕ) → Underway before mid text rest → CutShort mid now rest → CutShort before now text
underway_ends before mid now text rest u c = underway_cut before mid now text rest rest [] u (sym (append-nil rest)) c

-- the sink failed in a text, and so in a longer one
pub cut_longer : (before now : SinkState) (text more : List ℕ) → CutShort before now text → CutShort before now (text ++ more)
cut_longer before now text more c = underway_cut before before now (text ++ more) (text ++ more) text more (record { longer = omega arith; whole = refl }) refl c

-- the sink failed in a text behind another
pub cut_behind : (before mid now : SinkState) (text more : List ℕ) → mid ≡ after_bytes before text → CutShort mid now more → CutShort before now (text ++ more)
cut_behind before mid now text more e c = underway_ends before mid now (text ++ more) more (underway_by before mid text more e) c

-- the sink failed where nothing more was given
pub underway_failed : (before mid now : SinkState) (text rest : List ℕ) → Underway before mid text rest → 0 < length rest → now ≡ record { held = mid.held; faults = one_more mid.faults } →
    CutShort before now text
underway_failed before mid now text rest u some e =
    let held : now.held ≡ mid.held = ap (λ (s : SinkState). s.held) e in
    let same : length now.held ≡ length mid.held = ap (λ (h : List ℕ). length h) held in
    underway_ends before mid now text rest u
    (record {
      between = record {
        longer = omega (arith, same);
        shorter = omega (arith, same, some);
        within = ap (λ n. take n (mid.held ++ rest)) same ∙ take-append_seam mid.held rest ∙ sym held;
      };
      rose = ap (λ (s : SinkState). s.faults) e;
    })

-- the first text was written, and then the second or a part of it
pub puts_behind : (a b c : SinkState) (t u : List ℕ) (r : Result (Unit {0}) SinkFault) → b ≡ after_bytes a t → Puts b c u r → Puts a c (t ++ u) r
puts_behind a b c t u (Ok done) e w = w ∙ ap (λ (s : SinkState). after_bytes s u) e ∙ bytes_both a t u
puts_behind a b c t u (Err fault) e w = cut_behind a b c t u e w

-- the sink failed in the first text, and the second was not begun
pub puts_first : (a b : SinkState) (t u : List ℕ) (r : Result (Unit {0}) SinkFault) → IsErr r → CutShort a b t → Puts a b (t ++ u) r
puts_first a b t u (Ok done) e c = absurd (let never : false ≡ true = e in cc)
puts_first a b t u (Err fault) e c = cut_longer a b t u c

-- the sink failed in the text
pub puts_cut : (a b : SinkState) (t : List ℕ) (r : Result (Unit {0}) SinkFault) → IsErr r → CutShort a b t → Puts a b t r
puts_cut a b t (Ok done) e c = absurd (let never : false ≡ true = e in cc)
puts_cut a b t (Err fault) e c = c
