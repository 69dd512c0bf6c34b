-- New: a table in which nothing came is sound.
use Rattle.std.proofs.Common.{◌≡◌, ℕ, ◌+◌, ◌≤◌, sym, subst, List, [], ◌∷◌, arith, length}
use Rattle.std.specs.Prelude.{map}
use Rattle.std.proofs.lemmas.List.{length-map}
use Rattle.definitions.specs.Lists.{EachIs}
use Rattle.rosters.specs.declared.roster.Link.{Link}
use Rattle.socket_lines.specs.declared.line.Line.{Line}
use Rattle.socket_lines.specs.declared.seat.Seat.{Seat}
use Rattle.socket_lines.specs.Seats.{new_seat}
use Rattle.peer_rules.specs.declared.arrivals.Arrival.{Arrival}
use Rattle.loop_rules.specs.Told.{HasNone, DiffersBy}
use Rattle.socket_table.specs.declared.table.TheConstants.{MOST_LINES, MOST_TAKEN}
use Rattle.socket_table.specs.Sound.{IsFitSeat, IsSound}

none_made : (most n : ℕ) (links : List Link) → HasNone (λ l. l.player) n links → HasNone (λ c. c.link.player) n (map (new_seat most) links)
none_made most n [] h = tt
none_made most n (l ∷ links) h = (h.0, none_made most n links h.1)

pub differ_made : (most : ℕ) (links : List Link) → DiffersBy (λ l. l.player) links → DiffersBy (λ c. c.link.player) (map (new_seat most) links)
differ_made most [] d = tt
differ_made most (l ∷ links) d = (none_made most l.player links d.0, differ_made most links d.1)

fit_made : (most : ℕ) (links : List Link) → EachIs IsFitSeat (map (new_seat most) links)
fit_made most [] = tt
fit_made most (l ∷ links) = (omega arith, fit_made most links)

pub sound_new : (links : List Link) (most a b : ℕ) (ls : List Line) (cs : List Seat) (ws : List Arrival) → DiffersBy (λ l. l.player) links → ls ≡ [] → cs ≡ map (new_seat most) links → ws ≡ [] →
    MOST_LINES + length links ≤ a → MOST_TAKEN ≤ b → IsSound (record { lines = ls; seats = cs; accepted = 0; waiting = ws }) a b
sound_new links most a b ls cs ws d e f g m n =
    subst (λ (x : List Line). IsSound (record { lines = x; seats = cs; accepted = 0; waiting = ws }) a b) (sym e)
    (subst (λ (x : List Seat). IsSound (record { lines = []; seats = x; accepted = 0; waiting = ws }) a b) (sym f)
    (subst (λ (x : List Arrival). IsSound (record { lines = []; seats = map (new_seat most) links; accepted = 0; waiting = x }) a b) (sym g) (record {
      sockets = tt;
      players = differ_made most links d;
      lines = tt;
      seats = fit_made most links;
      room = record {
        accepted = omega arith;
        fine = omega arith;
        dialled = λ q. omega arith;
        few = omega arith;
        room = (let k = length-map links (new_seat most) in omega (arith, k, m));
      };
      waiting = omega arith;
      frames = n;
    })))
