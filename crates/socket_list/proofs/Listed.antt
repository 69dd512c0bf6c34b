-- Listed: what a poll lists is new to the lines.
use Rattle.std.proofs.Common.{◌≡◌, ℕ, Bool, false, refl, sym, ◌∙◌, List, [], ◌∷◌, ◌++◌}
use Rattle.std.specs.Prelude.{◌==◌, filter}
use Rattle.std.proofs.lemmas.Bool.{eq-eqb, false≢true, or_parts}
use Rattle.plain_lemmas.proofs.Each.{each_push}
use Rattle.socket_station.specs.declared.answers.Ready.{Ready}
use Rattle.socket_station.specs.declared.answers.Ready.TheVariants.{Opened, Socket as Seems}
use Rattle.socket_station.specs.Standings.{opens}
use Rattle.socket_lines.specs.declared.line.Line.{Line}
use Rattle.socket_lines.specs.Lines.{accepted_line}
use Rattle.loop_rules.specs.Told.{IsNotIn}
use Rattle.loop_rules.proofs.Told.{kept_open}
use Rattle.loop_rules.proofs.Alike.{Alike, not_in_alike}
use Rattle.socket_list.specs.Opening.{AreNewTo}

not_in_open : (n : ℕ) (ls : List Line) → IsNotIn n ls → IsNotIn n (filter (λ l. l.is_open) ls)
not_in_open n ls d = kept_open (λ m. m.socket ≡ n → ⊥) ls d

-- closed ones go
pub new_to_open : (ls : List Line) (list : List Ready) → AreNewTo ls list → AreNewTo (filter (λ l. l.is_open) ls) list
new_to_open ls [] n = tt
new_to_open ls (Opened s ∷ list) n = (not_in_open s ls n.0, n.1, new_to_open ls list n.2)
new_to_open ls (Seems s ∷ list) n = new_to_open ls list n

-- one opens that is listed no more
pub new_to_more : (s : ℕ) (wrong : Bool) (ls : List Line) (list : List Ready) → opens list s ≡ false → AreNewTo ls list → AreNewTo (ls ++ accepted_line s wrong ∷ []) list
new_to_more s wrong ls [] o n = tt
new_to_more s wrong ls (Opened m ∷ list) o n =
    let p = or_parts (m == s) (opens list s) o in
    (each_push (λ l. l.socket ≡ m → ⊥) ls (accepted_line s wrong) n.0 (λ e. false≢true (sym p.0 ∙ eq-eqb m s (sym e))), n.1, new_to_more s wrong ls list p.1 n.2)
new_to_more s wrong ls (Seems m ∷ list) o n = new_to_more s wrong ls list o n

-- lines change
pub new_to_alike : (ls ms : List Line) (list : List Ready) → Alike ls ms → AreNewTo ls list → AreNewTo ms list
new_to_alike ls ms [] a n = tt
new_to_alike ls ms (Opened s ∷ list) a n = (not_in_alike s ls ms a n.0, n.1, new_to_alike ls ms list a n.2)
new_to_alike ls ms (Seems s ∷ list) a n = new_to_alike ls ms list a n

-- the first that is listed
pub new_first : (ls : List Line) (r : Ready) (list : List Ready) → AreNewTo ls (r ∷ list) → AreNewTo ls (r ∷ [])
new_first ls (Opened s) list n = (n.0, refl, tt)
new_first ls (Seems s) list n = tt
