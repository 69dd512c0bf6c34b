-- Dialled: a dial, from its parts.
use Rattle.std.proofs.Common.{◌≡◌, ℕ, Bool, true, false, max, get_or, set, refl, sym, ap, ◌∙◌, subst}
use Rattle.std.specs.Prelude.{nat_lt, is_ok, Result}
use Rattle.socket_station.specs.declared.answers.Addr.{Addr}
use Rattle.socket_station.specs.declared.answers.Dial.{Dial}
use Rattle.socket_station.specs.declared.answers.Dial.TheVariants as D
use Rattle.machine_host.specs.declared.faults.HostFault.{HostFault}
use Rattle.station_mio.specs.declared.pace.TheConstants.{PAUSE}
use Rattle.station_mio.specs.Asking.{ListensAt, Selects}
use Rattle.station_mio.specs.Waiting.{Ticks, after_by}
use Rattle.station_mio.specs.Nets.{Net, Dials, DialsBy, DialsDue, DialsNow, Listens, ListensBy, has_room}

pub dials_in : (a t d b : Net) (player now due : ℕ) (addr : Addr) (dial : Dial) (is_later : Bool) → has_room a ≡ true →
    Ticks a.asks t.asks now → t ≡ record a { asks = t.asks } →
    due ≡ max (get_or t.due player 0) now → d ≡ record t { due = set t.due player (after_by due PAUSE) } →
    nat_lt now due ≡ is_later → DialsDue is_later now due addr dial d b → Dials (has_room a) player addr dial a b
dials_in a t d b player now due addr dial is_later room ticks same e next later w =
    let x : d ≡ record a { asks = t.asks; due = set a.due player (after_by due PAUSE) } =
    next ∙ ap (λ (n : Net). record n { due = set n.due player (after_by due PAUSE) }) same in
    subst (λ (r : Bool). Dials r player addr dial a b) (sym room) (record {
      now = now;
      ticked = t.asks;
      ticks = ticks;
      due = due;
      due_is = e ∙ ap (λ (n : Net). max (get_or n.due player 0) now) same;
      dials = subst (λ (n : Net). DialsDue (nat_lt now due) now due addr dial n b) x (subst (λ (r : Bool). DialsDue r now due addr dial d b) (sym later) w);
    })

-- there is no room
pub dials_none : (a : Net) (player : ℕ) (addr : Addr) → has_room a ≡ false → Dials (has_room a) player addr D.Failed a a
dials_none a player addr room = subst (λ (r : Bool). Dials r player addr D.Failed a a) (sym room) (refl, refl)

pub dials_now : (a m b : Net) (now : ℕ) (addr : Addr) (dial : Dial) → Selects a.selects m.selects a.asks m.asks → m ≡ record a { asks = m.asks; selects = m.selects } →
    (selects : Bool) → m.selects ≡ selects → DialsBy selects now addr dial m b → DialsNow now addr dial a b
dials_now a m b now addr dial s e selects is w = (m, s, e, subst (λ (r : Bool). DialsBy r now addr dial m b) (sym is) w)

-- it listens, where readiness can be asked of
pub listens_now : (a m b : Net) (addr : Addr) (done : Result (Unit {0}) HostFault) → Selects a.selects m.selects a.asks m.asks → m ≡ record a { asks = m.asks; selects = m.selects } →
    m.selects ≡ true → ListensAt addr (is_ok done) m.asks b.asks → b ≡ record m { asks = b.asks; listens = b.listens } → (is_ok done ≡ true → b.listens ≡ true) →
    (is_ok done ≡ false → b.listens ≡ m.listens) → Listens addr done a b
listens_now a m b addr done s e is w same l kept =
    let both : b ≡ record a { asks = b.asks; selects = m.selects; listens = b.listens } = same ∙ ap (λ (n : Net). record n { asks = b.asks; listens = b.listens }) e in
    let selects : m.selects ≡ b.selects = sym (ap (λ (n : Net). n.selects) both) in
    record {
      middle = m.asks;
      selects = subst (λ (r : Bool). Selects a.selects r a.asks m.asks) selects s;
      asked = subst (λ (r : Bool). ListensBy r addr done m.asks b.asks) (sym is ∙ selects) w;
      same = both ∙ ap (λ (r : Bool). record a { asks = b.asks; selects = r; listens = b.listens }) selects;
      listens = l;
      kept = λ failed. kept failed ∙ ap (λ (n : Net). n.listens) e;
    }
