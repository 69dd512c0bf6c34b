-- Reading: bytes that come on one socket make no other one want a read.
use Rattle.std.proofs.Common.{◌≡◌, ℕ, ◌≤◌, Bool, true, false, refl, sym, subst, ◌∙◌, List, arith, length}
use Rattle.std.specs.Prelude.{Option, Some, None, ◌==◌, ◌&&◌, ◌||◌, not, slice_get}
use Rattle.std.proofs.lemmas.Bool.{eq-eqb, eqb-true, false≢true, false_from_ne_true}
use Rattle.plain_lemmas.proofs.Pairs.{Pairs, pairs_same, pairs_then}
use Rattle.wire_frames.specs.Streams.{given_of}
use Rattle.socket_lines.specs.declared.line.Line.{Line}
use Rattle.loop_rules.specs.Tables.{Table, line_of, room_by, room_on}
use Rattle.loop_rules.specs.Hearing.{Hearer, read_on, read_at, heard_all, took_with, took_on}
use Rattle.loop_rules.specs.Rules.{wants_read}
use Rattle.loop_rules.proofs.Alike.{read_same}
use Rattle.socket_table.specs.Staying.{Rooms}
use Rattle.socket_list.proofs.Pairs.{pairs_key, pair_at}
use Rattle.socket_table.proofs.HearingKeeps.{LetsLine, lines_heard_all, read_lines}
use Rattle.socket_table.proofs.Rooms.{took_rooms}

-- ---- what a line must be to want a read

-- it is open, is not to be shut, and is not quiet
pub wants_parts : (is_open wrong full quiet : Bool) → (is_open && not (is_open && (wrong || full)) && not quiet) ≡ true → (is_open ≡ true) × (wrong ≡ false) × (full ≡ false) × (quiet ≡ false)
wants_parts true false false false e = (refl, refl, refl, refl)
wants_parts true false false true e = absurd (false≢true e)
wants_parts true false true quiet e = absurd (false≢true e)
wants_parts true true full quiet e = absurd (false≢true e)
wants_parts false wrong full quiet e = absurd (false≢true e)

pub wants_from : (is_open wrong full quiet : Bool) → is_open ≡ true → wrong ≡ false → full ≡ false → quiet ≡ false → (is_open && not (is_open && (wrong || full)) && not quiet) ≡ true
wants_from true false false false a b c d = refl
wants_from true false false true a b c d = absurd (false≢true (sym d))
wants_from true false true quiet a b c d = absurd (false≢true (sym c))
wants_from true true full quiet a b c d = absurd (false≢true (sym b))
wants_from false wrong full quiet a b c d = absurd (false≢true a)

-- ---- other lines

-- a line that wants a read no more than before
pub record Calmer (l m : Line) : Type 0 where
  pub opened : m.is_open ≡ l.is_open
  pub name : m.name ≡ l.name
  pub taken : m.taken ≡ l.taken
  pub quiet : m.is_quiet ≡ l.is_quiet
  pub wrong : l.is_wrong ≡ true → m.is_wrong ≡ true

calmer_then : (k l m : Line) → Calmer k l → Calmer l m → Calmer k m
calmer_then k l m a b = record { opened = b.opened ∙ a.opened; name = b.name ∙ a.name; taken = b.taken ∙ a.taken; quiet = b.quiet ∙ a.quiet; wrong = λ e. b.wrong (a.wrong e) }

-- the other sockets are so
abbrev CalmerOther : (s : ℕ) → Line → Line → Type 0
CalmerOther s l m = (m.socket ≡ l.socket) × ((l.socket ≡ s → ⊥) → Calmer l m)

lets_calmer : (s : ℕ) → LetsLine s (CalmerOther s)
lets_calmer s = record {
  stays = λ l. (refl, λ d. record { opened = refl; name = refl; taken = refl; quiet = refl; wrong = λ e. e });
  goes_on = λ k l m a b. (b.0 ∙ a.0, λ d. calmer_then k l m (a.1 d) (b.1 (λ e. d (sym a.0 ∙ e))));
  dooms = λ l. (refl, λ d. record { opened = refl; name = refl; taken = refl; quiet = refl; wrong = λ e. refl });
  jumps = λ place l e. (refl, λ d. absurd (d e));
  turns = λ place l e. (refl, λ d. absurd (d e));
}

lines_took : (h : Hearer) (t : Table) (s : ℕ) (bytes : List ℕ) (o : Option Line) → Pairs (CalmerOther s) t.lines (took_with h t s bytes o).lines
lines_took h t s bytes None = pairs_same (CalmerOther s) (lets_calmer s).stays t.lines
lines_took h t s bytes (Some l) =
    let g = given_of l.reader bytes in
    let n = length bytes in
    let u = read_at s n g l t in
    let read = pairs_key (CalmerOther s) (λ m. m.socket) s (read_on n g) (lets_calmer s).stays (λ m e. ((read_same n g m).socket, λ d. absurd (d e))) t.lines in
    pairs_then (CalmerOther s) (lets_calmer s).goes_on t.lines u.lines (heard_all h s g u).lines (subst (Pairs (CalmerOther s) t.lines) (sym (read_lines s n g l t)) read)
    (lines_heard_all s (CalmerOther s) (lets_calmer s) (λ q from next m e. (refl, λ d. absurd (d e))) h g u)

-- as much was taken under the same name, so no more may be taken where no more may be of anyone
room_less : (t u : Table) (l m : Line) → Rooms t u → m.name ≡ l.name → m.taken ≡ l.taken → room_on u m ≤ room_on t l
room_less t u l m r name taken = subst (λ (o : Option ℕ). room_by u m o ≤ room_by t l l.name) (sym name) (go l.name)
  where
    go : (o : Option ℕ) → room_by u m o ≤ room_by t l o
    go None = omega (arith, taken)
    go (Some q) = r q

calmer_reads : (t u : Table) (l m : Line) → Rooms t u → Calmer l m → wants_read u m ≡ true → wants_read t l ≡ true
calmer_reads t u l m r c e =
    let p = wants_parts m.is_open m.is_wrong (room_on u m == 0) m.is_quiet e in
    let less = room_less t u l m r c.name c.taken in
    wants_from l.is_open l.is_wrong (room_on t l == 0) l.is_quiet (sym c.opened ∙ p.0)
    (false_from_ne_true l.is_wrong (λ w. false≢true (sym p.1 ∙ c.wrong w)))
    (false_from_ne_true (room_on t l == 0) (λ w. (let none = eqb-true (room_on t l) 0 w in false≢true (sym p.2 ∙ eq-eqb (room_on u m) 0 (omega (arith, none, less))))))
    (sym c.quiet ∙ p.3)

pub took_calm : (h : Hearer) (s : ℕ) (bytes : List ℕ) (t : Table) (k : ℕ) (l m : Line) → slice_get t.lines k ≡ Some l → slice_get (took_on h s bytes t).lines k ≡ Some m → (l.socket ≡ s → ⊥) →
    wants_read (took_on h s bytes t) m ≡ true → wants_read t l ≡ true
took_calm h s bytes t k l m at behind d e =
    let u = took_on h s bytes t in
    let pair = pair_at (CalmerOther s) t.lines u.lines k l m (lines_took h t s bytes (line_of t s)) at behind in
    calmer_reads t u l m (took_rooms h s bytes t) (pair.1 d) e
