-- Loggers: the text of a logger is read as that logger, and what is read was spelled so.
use Rattle.std.proofs.Common.{◌≡◌, ◌⊎◌, inl, inr, ℕ, suc, Bool, true, false, Option, List, [], ◌∷◌, ◌++◌, Result, Ok, Err, Some, None, refl, sym, ap, subst, ◌∙◌, arith}
use Rattle.std.specs.Prelude.{IfOk, codes, if◌then◌else◌}
use Rattle.hex.specs.Hex.{encode_lower}
use Rattle.byte_fields.specs.Fronts.{behind}
use Rattle.byte_fields.proofs.Reading.{bind_some}
use Rattle.plain_lemmas.proofs.Lists.{front_stands}
use Rattle.text_lines.specs.Lines.{ended_lines_of, is_bare, joined, line_of, one_within}
use Rattle.text_lines.specs.Reading.{◌>>=◌, ends_at, line_at}
use Rattle.text_lines.specs.Answers.{Says}
use Rattle.text_lines.proofs.Forms.{one_within-some, one_within-spelled}
use Rattle.text_lines.proofs.Joined.{AreLines, IsLine, bare_line, ended_lines_of-joined, joined-ended_lines_of, one_line}
use Rattle.text_lines.proofs.Steps.{bind_err, bind_ok, line_at_err, line_at_ok, ok_is}
use Rattle.text_fields.specs.declared.fault.TextFault.{TextFault}
use Rattle.text_fields.specs.declared.fault.TextFault.TheVariants.{At, Memory}
use Rattle.rosters.specs.declared.logger.Logger.{Logger}
use Rattle.rosters.specs.Addrs.{Addr}
use Rattle.rosters.specs.Fields.{addr_then, line_end, pass_then, space}
use Rattle.rosters.specs.LoggerText.{FitsLogger, IsLoggerFrom, SaysLogger, logger_at, logger_by, logger_line, logger_lines, logger_said}
use Rattle.rosters.specs.Reading.{alone, end_at, me_said}
use Rattle.rosters.specs.Text.{FitsAddr, addr_text, end_line, me_line, version_line}
use Rattle.rosters.proofs.Addrs.{addr_read, addr_spelled, pass_read, pass_spelled}
use Rattle.rosters.proofs.Lines.{alone_is, me_read, me_taken}
use Rattle.rosters.proofs.Plain.{addr_once, ends_once, is_line, mark_then, me_is_line, pass_plain, plain_then}
use Rattle.rosters.proofs.Taken.{end_takes}

-- an empty line says nothing
pub logger_said-empty : logger_said [] ≡ None
unfolding logger_said
logger_said-empty = refl

-- ---- what is spelled is read

said_again : (l : Logger) → FitsLogger l → logger_said (logger_line l) ≡ Some l
unfolding logger_said
said_again l fits =
    rw (
      addr_read space l.addr (encode_lower l.shows ++ (line_end ∷ [])) refl fits.addr,
      pass_read line_end l.shows [] fits.shows,
    ) refl

lines_again : (own : Addr) (l : Logger) → FitsAddr own → FitsLogger l → logger_by (logger_lines own l) ≡ Ok l
unfolding logger_by end_at
lines_again own l at fits =
    rw (
      one_within-spelled (codes "roster") 1 1 1 (omega arith) (omega arith) (omega arith),
      me_read own at,
      said_again l fits,
    ) refl

logger_is_line : (l : Logger) → FitsLogger l → IsLine (logger_line l)
unfolding ends_once
logger_is_line l fits =
    let last : List ℕ = line_end ∷ [] in
    let pass = plain_then (encode_lower l.shows) last (pass_plain l.shows fits.shows) refl in
    let shows = mark_then space (encode_lower l.shows ++ last) refl pass in
    let addr = addr_once l.addr (space ∷ (encode_lower l.shows ++ last)) fits.addr shows in
    is_line (logger_line l) (plain_then (codes "logger ") (addr_text l.addr (space ∷ (encode_lower l.shows ++ last))) refl addr)

pub logger_again : (text : List ℕ) (l : Logger) → IsLoggerFrom l text → logger_at text ≡ Ok l
logger_again text l (own, says) =
    let lines : AreLines (logger_lines own l)
    = (one_line (codes "roster") 1 refl (omega arith), (me_is_line own says.own_fits, (logger_is_line l says.fits, (bare_line (codes "end") refl, tt)))) in
    ap (λ (t : List ℕ). logger_at t) says.text_is
    ∙ ap logger_by (ended_lines_of-joined (logger_lines own l) lines)
    ∙ lines_again own l says.own_fits says.fits

-- ---- what is read was spelled so

said_taken : (line : List ℕ) (l : Logger) → logger_said line ≡ Some l → (line ≡ logger_line l) × FitsLogger l
unfolding logger_said
said_taken line l h =
    let front = bind_some (behind (codes "logger ") line) _ l h in
    let a = bind_some (addr_then space front.0) _ l front.2 in
    let s = bind_some (pass_then line_end a.0.1) _ l a.2 in
    let made : Logger = record { addr = a.0.0; shows = s.0.0 } in
    let end = alone_is (made, s.0.1) l s.2 in
    let aa = addr_spelled space front.0 a.0 a.1 in
    let ss = pass_spelled line_end a.0.1 s.0 s.1 in
    let shows : a.0.1 ≡ encode_lower s.0.0 ++ (line_end ∷ [])
    = ss.0 ∙ ap (λ (r : List ℕ). encode_lower s.0.0 ++ (line_end ∷ r)) end.0 in
    let rest : front.0 ≡ addr_text a.0.0 (space ∷ (encode_lower s.0.0 ++ (line_end ∷ [])))
    = aa.0 ∙ ap (λ (r : List ℕ). addr_text a.0.0 (space ∷ r)) shows in
    subst (λ (x : Logger). (line ≡ logger_line x) × FitsLogger x) end.1
    (front_stands (codes "logger ") line front.0 front.1 ∙ ap (λ (t : List ℕ). codes "logger " ++ t) rest, record { addr = aa.1; shows = ss.1 })

-- the lines are those of a player with this address that says this logger
record AreTaken (lines : List (List ℕ)) (l : Logger) : Type 0 where
  own : Addr
  own_fits : FitsAddr own
  fits : FitsLogger l
  spelled : lines ≡ logger_lines own l

lines_taken : (lines : List (List ℕ)) (l : Logger) → logger_by lines ≡ Ok l → AreTaken lines l
unfolding logger_by
lines_taken lines l e =
    let v = bind_ok (line_at (At 1) (one_within (codes "roster") 1 1) lines) _ l e in
    let o = bind_ok (line_at (At 2) me_said v.0.1) _ l v.2 in
    let g = bind_ok (line_at (At 3) logger_said o.0.1) _ l o.2 in
    let end = bind_ok (end_at 4 g.0.1) _ l g.2 in
    let version = line_at_ok (At 1) (one_within (codes "roster") 1 1) lines v.0.0 v.0.1 v.1 in
    let number = one_within-some (codes "roster") 1 1 version.0 v.0.0 version.2 in
    let one : v.0.0 ≡ 1 = omega (arith, number.1, number.2) in
    let own = line_at_ok (At 2) me_said v.0.1 o.0.0 o.0.1 o.1 in
    let address = me_taken own.0 o.0.0 own.2 in
    let third = line_at_ok (At 3) logger_said o.0.1 g.0.0 g.0.1 g.1 in
    let taken = said_taken third.0 g.0.0 third.2 in
    let last = end_takes 4 g.0.1 end.0 end.1 in
    let head : lines ≡ version_line ∷ v.0.1
    = version.1 ∙ ap (λ (x : List ℕ). x ∷ v.0.1) (number.0 ∙ ap (λ n. line_of (codes "roster") (n ∷ [])) one) in
    let second : v.0.1 ≡ me_line o.0.0 ∷ o.0.1 = own.1 ∙ ap (λ (x : List ℕ). x ∷ o.0.1) address.0 in
    let rest : o.0.1 ≡ logger_line g.0.0 ∷ end_line ∷ []
    = third.1 ∙ ap (λ (x : List ℕ). x ∷ g.0.1) taken.0 ∙ ap (λ (t : List (List ℕ)). logger_line g.0.0 ∷ t) last in
    let whole : lines ≡ logger_lines o.0.0 g.0.0
    = head ∙ ap (λ (t : List (List ℕ)). version_line ∷ t) (second ∙ ap (λ (t : List (List ℕ)). me_line o.0.0 ∷ t) rest) in
    subst (AreTaken lines) (ok_is {E = TextFault} g.0.0 l end.2)
    (record { own = o.0.0; own_fits = address.1; fits = taken.1; spelled = whole })

pub logger_found : (text : List ℕ) (l : Logger) → logger_at text ≡ Ok l → IsLoggerFrom l text
logger_found text l e =
    let taken = lines_taken (ended_lines_of text) l e in (
      taken.own,
      record {
        own_fits = taken.own_fits;
        fits = taken.fits;
        text_is = sym (joined-ended_lines_of text) ∙ ap joined taken.spelled;
      },
    )

-- ---- what the reader answers

pub found_in : (text : List ℕ) (r : Result Logger TextFault) → Says (λ l. l) r (logger_at text) → IfOk r (λ l. IsLoggerFrom l text)
found_in text (Ok l) says = logger_found text l says
found_in text (Err e) says = tt

-- ---- no line is at fault for want of memory

line_so : {X : Type 0} (n : ℕ) (read : List ℕ → Option X) (lines : List (List ℕ)) → line_at (At n) read lines ≡ Err Memory → ⊥
line_so n read lines e = let is = line_at_err (At n) read lines Memory e in absurd (let same : At n ≡ Memory = is.0 in cc)

end_so : (n : ℕ) (lines : List (List ℕ)) → end_at n lines ≡ Err Memory → ⊥
unfolding end_at
end_so n [] e = absurd cc
end_so n (line ∷ lines) e = go (is_bare (codes "end") line) lines e
  where
    go : (b : Bool) (rest : List (List ℕ)) → (if b then ends_at {A = ℕ} (At (suc n)) rest else Err (At n)) ≡ Err Memory → ⊥
    go true [] h = absurd cc
    go true (more ∷ rest) h = absurd cc
    go false rest h = absurd cc

pub never_memory : (text : List ℕ) → logger_at text ≡ Err Memory → ⊥
unfolding logger_by
never_memory text e = elim (bind_err (line_at (At 1) (one_within (codes "roster") 1 1) (ended_lines_of text)) _ Memory e) [
  | inl h ↦ line_so 1 (one_within (codes "roster") 1 1) (ended_lines_of text) h
  | inr v ↦ by_own v.0.1 v.2
]
  where
    by_end : (l : Logger) (lines : List (List ℕ)) → (end_at 4 lines >>= λ end. Ok l) ≡ Err Memory → ⊥
    by_end l lines h = elim (bind_err (end_at 4 lines) _ Memory h) [
      | inl k ↦ end_so 4 lines k
      | inr x ↦ absurd (let never : Ok l ≡ Err Memory = x.2 in cc)
    ]

    by_logger : (lines : List (List ℕ)) → (line_at (At 3) logger_said lines >>= λ l. end_at 4 l.1 >>= λ end. Ok l.0) ≡ Err Memory → ⊥
    by_logger lines h = elim (bind_err (line_at (At 3) logger_said lines) _ Memory h) [
      | inl k ↦ line_so 3 logger_said lines k
      | inr l ↦ by_end l.0.0 l.0.1 l.2
    ]

    by_own : (lines : List (List ℕ)) → (line_at (At 2) me_said lines >>= λ o. line_at (At 3) logger_said o.1 >>= λ l. end_at 4 l.1 >>= λ end. Ok l.0) ≡ Err Memory → ⊥
    by_own lines h = elim (bind_err (line_at (At 2) me_said lines) _ Memory h) [
      | inl k ↦ line_so 2 me_said lines k
      | inr o ↦ by_logger o.0.1 o.2
    ]
