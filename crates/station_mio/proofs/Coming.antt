-- Coming: sockets are accepted one after the other, and a wait, from its parts.
use Rattle.std.proofs.Common.{◌≡◌, inr, ◌≤◌, ◌+◌, ℕ, Bool, true, false, List, [], ◌∷◌, ◌++◌, Some, map, length, refl, sym, ap, ◌∙◌, subst, arith}
use Rattle.std.specs.Prelude.{Result, Ok, Err}
use Rattle.std.proofs.lemmas.List.{append_assoc, append-nil, length-append, map-append, length-map}
use Rattle.socket_station.specs.declared.answers.Ready.{Ready}
use Rattle.socket_station.specs.declared.answers.Ready.TheVariants.{Opened}
use Rattle.machine_host.specs.declared.faults.HostFault.{HostFault}
use Rattle.machine_host.specs.Asks.{Waited, list_of}
use Rattle.station_mio.specs.Asking.{Selects}
use Rattle.station_mio.specs.Waiting.{Ticks, patience_with}
use Rattle.station_mio.specs.Nets.{Net, AcceptsOne, AcceptsWaiting, Come, IsDeaf, StopsAt, Waits, WaitsFor}

come_then : (news : List ℕ) (s : ℕ) (a m b : Net) → Come news a m → AcceptsOne (Some s) m b → Come (news ++ s ∷ []) a b
come_then [] s a m b w one = (b, subst (λ (n : Net). AcceptsOne (Some s) n b) w one, refl)
come_then (r ∷ news) s a m b w one = (w.0, w.1, come_then news s w.0 m b w.2 one)

-- so many were accepted and listed
pub record CameSo (count : ℕ) (list ready : List Ready) (a b : Net) : Type 0 where
  pub news : List ℕ
  pub come : Come news a b
  pub listed : ready ≡ list ++ map Opened news
  pub many : length news ≡ count
  pub selects : b.selects ≡ true

pub came_none : (list : List Ready) (a : Net) → a.selects ≡ true → CameSo 0 list list a a
came_none list a s = record { news = []; come = refl; listed = sym (append-nil list); many = refl; selects = s }

pub came_more : (count s : ℕ) (list ready : List Ready) (a m b : Net) → CameSo count list ready a m → AcceptsOne (Some s) m b → CameSo (count + 1) list (ready ++ Opened s ∷ []) a b
came_more count s list ready a m b w one =
    let many = w.many in
    let sum = length-append w.news (s ∷ []) in
    record {
      news = w.news ++ s ∷ [];
      come = come_then w.news s a m b w.come one;
      listed =
          ap (λ (x : List Ready). x ++ Opened s ∷ []) w.listed ∙ append_assoc list (map Opened w.news) (Opened s ∷ []) ∙
          ap (λ (x : List Ready). list ++ x) (sym (map-append Opened w.news (s ∷ [])));
      many = omega (arith, many, sum);
      selects = ap (λ (n : Net). n.selects) one.4 ∙ w.selects;
    }

pub came_stops : (count : ℕ) (list ready : List Ready) (a m b : Net) → CameSo count list ready a m → StopsAt ready m b → AcceptsWaiting list ready a b
came_stops count list ready a m b w stops = record { news = w.news; middle = m; come = w.come; listed = w.listed; stops = stops }

-- there are at least as many in the list
pub came_many : (count : ℕ) (list ready : List Ready) (a m : Net) → CameSo count list ready a m → count ≤ length ready
came_many count list ready a m w =
    let many = w.many in
    let sum = ap (λ (x : List Ready). length x) w.listed ∙ length-append list (map Opened w.news) in
    let same = length-map w.news Opened in
    omega (arith, many, sum, same)

-- the machine waited
pub waits_well : (a m t b : Net) (now : ℕ) (answer : Result (Unit {0}) HostFault) (tokens : List ℕ) →
    Selects a.selects m.selects a.asks m.asks → m ≡ record a { asks = m.asks; selects = m.selects } → m.selects ≡ true →
    Ticks m.asks t.asks now → t ≡ record m { asks = t.asks } →
    b ≡ record t { asks = t.asks ++ Waited (patience_with t.backlog now t.stands) (list_of answer tokens) ∷ [] } → WaitsFor answer tokens a b
waits_well a m t b now answer tokens s e is ticks te be = by-answer answer refl
  where
    first : t ≡ record a { asks = t.asks; selects = true }
    first = te ∙ ap (λ (n : Net). record n { asks = t.asks }) e ∙ ap (λ (x : Bool). record a { asks = t.asks; selects = x }) is

    waits : (r : Result (List ℕ) HostFault) → list_of answer tokens ≡ r → Waits r a b
    waits r same = record {
      picked = m.asks;
      selects = subst (λ (x : Bool). Selects a.selects x a.asks m.asks) is s;
      now = now;
      ticked = t.asks;
      ticks = ticks;
      same = be ∙ ap (λ (x : Result (List ℕ) HostFault). record t { asks = t.asks ++ Waited (patience_with t.backlog now t.stands) x ∷ [] }) same ∙
          ap (λ (n : Net). record n { asks = t.asks ++ Waited (patience_with n.backlog now n.stands) r ∷ [] }) first;
    }

    by-answer : (x : Result (Unit {0}) HostFault) → answer ≡ x → WaitsFor x tokens a b
    by-answer (Ok u) same = waits (Ok tokens) (ap (λ (x : Result (Unit {0}) HostFault). list_of x tokens) same)
    by-answer (Err f) same = inr (f, waits (Err f) (ap (λ (x : Result (Unit {0}) HostFault). list_of x tokens) same))

-- there is nothing that readiness could be asked of
pub is_deaf : (a m : Net) → Selects a.selects m.selects a.asks m.asks → m ≡ record a { asks = m.asks; selects = m.selects } → m.selects ≡ false → IsDeaf a m
is_deaf a m s e none = record {
  selects = subst (λ (x : Bool). Selects a.selects x a.asks m.asks) none s;
  same = e ∙ ap (λ (x : Bool). record a { asks = m.asks; selects = x }) none;
}
