-- Waiting: the frames that wait after bytes of a named socket are those of turns that they
-- brought.
use Rattle.std.proofs.Common.{◌≡◌, ℕ, Bool, true, false, refl, sym, ap, subst, ◌∙◌, List, [], ◌∷◌, ◌++◌, append_assoc, append-nil, length}
use Rattle.std.specs.Prelude.{Option, Some, None, ◌==◌, not, map, if◌then◌else◌}
use Rattle.std.specs.List.{fold}
use Rattle.std.proofs.lemmas.Bool.{eq-eqb}
use Rattle.definitions.specs.declared.frames.TurnFrame.{TurnFrame}
use Rattle.definitions.specs.Logs.{player_of}
use Rattle.definitions.specs.Findings.{is_clean}
use Rattle.definitions.specs.Answers.{is_far}
use Rattle.wire_frames.specs.declared.frames.Frame.{Frame}
use Rattle.wire_frames.specs.declared.frames.Frame.TheVariants.{Hello, Turn, Want}
use Rattle.wire_frames.specs.Streams.{Given, given_of}
use Rattle.socket_lines.specs.declared.line.Line.{Line}
use Rattle.socket_lines.specs.declared.seat.Seat.{Seat}
use Rattle.socket_lines.specs.Seats.{asks, may_want, obeys, reaches}
use Rattle.socket_lines.specs.Lines.{doomed, moved_to}
use Rattle.peer_rules.specs.declared.arrivals.Arrival.{Arrival}
use Rattle.loop_rules.specs.Tables.{Table, line_of, seat_of, at_line, at_seat}
use Rattle.loop_rules.specs.Views.{View}
use Rattle.loop_rules.specs.Hearing.{Hearer, obeyed, arrived, heard_named, heard_by, heard_on, heard, counted, counted_on, read_at, read_on, took_with}
use Rattle.loop_rules.specs.Handling.{with_waiting, next_of, passed, is_new_to, sorted}
use Rattle.loop_laws.specs.Handling.{turns_of, from_new}
use Rattle.loop_laws.proofs.Finds.{line_in, line_is, on_line, line_mapped, at_socket, keeps_at}
use Rattle.loop_laws.proofs.Hearing.{moved_keeps}
use Rattle.loop_laws.proofs.Steps.{read_keeps}

abbrev pub arrival : (q : ℕ) → TurnFrame → Arrival
arrival q f = record { player = q; frame = f }

abbrev pub arrivals : (q : ℕ) → List TurnFrame → List Arrival
arrivals q fs = map (arrival q) fs

-- the line is there, has this name and is not wrong
abbrev pub IsUsed : (q : ℕ) → Option Line → Type 0
IsUsed q None = ⊥
IsUsed q (Some l) = (l.name ≡ Some q) × (l.is_wrong ≡ false)

abbrev IsWrong : Option Line → Type 0
IsWrong None = ⊥
IsWrong (Some l) = l.is_wrong ≡ true

-- ---- a wrong line hears nothing

wrong_line : (n : ℕ) (t : Table) → (o : Option Line) → line_in n t.lines ≡ o → IsWrong o → (h : Hearer) (f : Frame) → heard_on h t n f o ≡ t
wrong_line n t None e w h f = absurd w
wrong_line n t (Some l) e w h f = ap (λ (b : Bool). if b then t else heard_by h t n l l.name f) w

wrong_each : (h : Hearer) (n : ℕ) (t : Table) (fs : List Frame) → IsWrong (line_in n t.lines) → fold (heard h n) t fs ≡ t
wrong_each h n t [] w = refl
wrong_each h n t (f ∷ fs) w =
    ap (λ (u : Table). fold (heard h n) u fs) (wrong_line n t (line_of t n) refl w h f) ∙ wrong_each h n t fs w

doomed_wrong : (q n : ℕ) (t : Table) → IsUsed q (line_in n t.lines) → IsWrong (line_in n (at_line n doomed t).lines)
doomed_wrong q n t u = subst IsWrong (sym (line_mapped n (at_socket n doomed) (keeps_at n doomed (λ l e. refl)) t.lines)) (go (line_in n t.lines) refl u)
  where
    go : (o : Option Line) → line_in n t.lines ≡ o → IsUsed q o → IsWrong (on_line (at_socket n doomed) o)
    go None e x = absurd x
    go (Some l) e x = ap (λ (b : Bool). (if b then doomed l else l).is_wrong) (eq-eqb l.socket n (line_is n t.lines l e))

-- ---- a named line

used_mapped : (q n : ℕ) (change : Line → Line) (t : Table) → ((l : Line) → (change l).socket ≡ l.socket) → ((l : Line) → IsUsed q (Some l) → IsUsed q (Some (change l))) →
    IsUsed q (line_in n t.lines) → IsUsed q (line_in n (at_line n change t).lines)
used_mapped q n change t keeps k u =
    subst (IsUsed q) (sym (line_mapped n (at_socket n change) (keeps_at n change (λ l e. keeps l)) t.lines)) (go (line_in n t.lines) u)
  where
    one : (l : Line) (b : Bool) → IsUsed q (Some l) → IsUsed q (Some (if b then change l else l))
    one l true x = k l x
    one l false x = x

    go : (o : Option Line) → IsUsed q o → IsUsed q (on_line (at_socket n change) o)
    go None x = x
    go (Some l) x = one l (l.socket == n) x

moved_used : (q place : ℕ) (l : Line) → IsUsed q (Some l) → IsUsed q (Some (moved_to place l))
moved_used q place l u = go l.sending
  where
    go : (o : Option ℕ) → IsUsed q (Some (moved_to place (record l { sending = o })))
    go None = u
    go (Some p) = u

used_obeyed : (q n place : ℕ) (t : Table) (o : Option Seat) → IsUsed q (line_in n t.lines) → IsUsed q (line_in n (obeyed t n q place o).lines) × ((obeyed t n q place o).waiting ≡ t.waiting)
used_obeyed q n place t None u = (u, refl)
used_obeyed q n place t (Some c) u = go (may_want c)
  where
    go : (b : Bool) → let v = if b then at_seat q obeys (at_line n (moved_to place) t) else t in IsUsed q (line_in n v.lines) × (v.waiting ≡ t.waiting)
    go true = (used_mapped q n (moved_to place) t (moved_keeps place) (moved_used q place) u, refl)
    go false = (u, refl)

-- a frame on it is heard as one of its player
named_line : (q n : ℕ) (t : Table) (o : Option Line) → IsUsed q o → (h : Hearer) (f : Frame) → heard_on h t n f o ≡ heard_named t n q f
named_line q n t None u h f = absurd u
named_line q n t (Some l) u h f =
    ap (λ (b : Bool). if b then t else heard_by h t n l l.name f) u.1 ∙ ap (λ (o : Option ℕ). heard_by h t n l o f) u.0

-- the frames of turns that come wait after those that do
abbrev Brings : (q : ℕ) → Table → List Frame → Table → Type 0
Brings q t fs u = u.waiting ≡ t.waiting ++ arrivals q (turns_of q fs)

brings_doomed : (q n : ℕ) (h : Hearer) (t : Table) (fs : List Frame) → IsUsed q (line_in n t.lines) → (fold (heard h n) (at_line n doomed t) fs).waiting ≡ t.waiting ++ []
brings_doomed q n h t fs u =
    ap (λ (x : Table). x.waiting) (wrong_each h n (at_line n doomed t) fs (doomed_wrong q n t u)) ∙ sym (append-nil t.waiting)

brings_turn : (q n : ℕ) (h : Hearer) (t : Table) (f : TurnFrame) (fs : List Frame) (b : Bool) → IsUsed q (line_in n t.lines) → Brings q (arrived t q f) fs (fold (heard h n) (arrived t q f) fs) →
    (fold (heard h n) (if b then arrived t q f else at_line n doomed t) fs).waiting ≡ t.waiting ++ arrivals q (if b then f ∷ turns_of q fs else [])
brings_turn q n h t f fs true u more = more ∙ append_assoc t.waiting (arrival q f ∷ []) (arrivals q (turns_of q fs))
brings_turn q n h t f fs false u more = brings_doomed q n h t fs u

brings_named : (q n : ℕ) (h : Hearer) (t : Table) (fs : List Frame) → IsUsed q (line_in n t.lines) → Brings q t fs (fold (heard h n) t fs)
brings_named q n h t [] u = sym (append-nil t.waiting)
brings_named q n h t (Hello id p pass from ∷ fs) u =
    ap (λ (x : Table). (fold (heard h n) x fs).waiting) (named_line q n t (line_of t n) u h (Hello id p pass from)) ∙ brings_doomed q n h t fs u
brings_named q n h t (Turn f ∷ fs) u =
    ap (λ (x : Table). (fold (heard h n) x fs).waiting) (named_line q n t (line_of t n) u h (Turn f)) ∙
    brings_turn q n h t f fs (player_of f == q) u (brings_named q n h (arrived t q f) fs u)
brings_named q n h t (Want place ∷ fs) u =
    let w = used_obeyed q n place t (seat_of t q) u in
    let v = at_seat q (reaches place) (obeyed t n q place (seat_of t q)) in
    ap (λ (x : Table). (fold (heard h n) x fs).waiting) (named_line q n t (line_of t n) u h (Want place)) ∙ brings_named q n h v fs w.0 ∙
    ap (λ (x : List Arrival). x ++ arrivals q (turns_of q fs)) w.1

read_used : (q count : ℕ) (g : Given) (l : Line) → IsUsed q (Some l) → IsUsed q (Some (read_on count g l))
read_used q count g l u = (ap (λ (o : Option ℕ). (counted_on o count l).name) u.0 ∙ u.0, ap (λ (o : Option ℕ). (counted_on o count l).is_wrong) u.0 ∙ u.1)

counted_same : (o : Option ℕ) (count : ℕ) (t : Table) → ((counted o count t).lines ≡ t.lines) × ((counted o count t).waiting ≡ t.waiting)
counted_same None count t = (refl, refl)
counted_same (Some q) count t = (refl, refl)

-- the bytes of a named socket bring the frames of turns that they spell
pub brings_taken : (q n : ℕ) (h : Hearer) (t : Table) (bytes : List ℕ) (l : Line) → line_in n t.lines ≡ Some l → IsUsed q (Some l) →
    (took_with h t n bytes (Some l)).waiting ≡ t.waiting ++ arrivals q (turns_of q (given_of l.reader bytes).frames)
brings_taken q n h t bytes l e u =
    let g = given_of l.reader bytes in
    let r = at_line n (read_on (length bytes) g) t in
    let c = counted_same l.name (length bytes) r in
    let v = read_at n (length bytes) g l t in
    let w = fold (heard h n) v g.frames in
    let used : IsUsed q (line_in n r.lines) = used_mapped q n (read_on (length bytes) g) t (read_keeps (length bytes) g) (read_used q (length bytes) g) (subst (IsUsed q) (sym e) u) in
    same g.reader.bad w ∙ brings_named q n h v g.frames (subst (λ (x : List Line). IsUsed q (line_in n x)) (sym c.0) used) ∙
    ap (λ (x : List Arrival). x ++ arrivals q (turns_of q g.frames)) c.1
  where
    same : (b : Bool) (w : Table) → (if b then at_line n doomed w else w).waiting ≡ w.waiting
    same true w = refl
    same false w = refl

-- ---- what waits is handled

abbrev pub new_in : (q : ℕ) → View → List TurnFrame → List TurnFrame
new_in q v fs = from_new v.setting.game v.setting.me q v.kept fs

passed_same : (q : ℕ) (v : View) (a : Arrival) (fs : List TurnFrame) → new_in q (passed v a) fs ≡ new_in q v fs
passed_same q v a fs = go (is_far v.setting.game v.setting.me v.kept a.player a.frame)
  where
    go : (b : Bool) → new_in q (if b then record v { table = at_seat a.player (asks (next_of v a.player)) v.table } else v) fs ≡ new_in q v fs
    go true = refl
    go false = refl

pub sorted_is : (q : ℕ) (fs : List TurnFrame) (v : View) → (sorted (arrivals q fs) v).table.waiting ≡ arrivals q (new_in q v fs)
sorted_is q [] v = refl
sorted_is q (f ∷ fs) v =
    go (not (is_clean v.setting.game v.kept)) (is_new_to v (arrival q f)) (sorted_is q fs (passed v (arrival q f)) ∙ ap (arrivals q) (passed_same q v (arrival q f) fs))
  where
    go : (b c : Bool) → (sorted (arrivals q fs) (passed v (arrival q f))).table.waiting ≡ arrivals q (new_in q v fs) →
        (if b then with_waiting [] v else if c then with_waiting (arrivals q (f ∷ fs)) v else sorted (arrivals q fs) (passed v (arrival q f))).table.waiting ≡
        arrivals q (if b then [] else if c then f ∷ fs else new_in q v fs)
    go true c e = refl
    go false true e = refl
    go false false e = e
