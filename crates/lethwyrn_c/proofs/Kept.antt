-- Kept: what is read of a log before its first fault is written as the log's first bytes.
use Rattle.std.proofs.Common.{◌≡◌, ℕ, ◌+◌, ◌≤◌, inl, inr, Bool, true, false, List, [], ◌∷◌, ◌++◌, length, replicate, take, refl, sym, ap, ◌∙◌, subst, arith, append-nil}
use Rattle.std.specs.Prelude.{Option, Some, None, Ok, Err, nat_lt, if◌then◌else◌}
use Rattle.definitions.specs.declared.logs.Entry.{Entry}
use Rattle.session_log.specs.declared.faults.LogFault.{LogFault}
use Rattle.definitions.specs.declared.logs.LogWhy.{LogWhy}
use Rattle.definitions.specs.declared.logs.LogWhy.TheVariants.{TooLong, Torn, BadChain, BadEntry, NotReplayed}
use Rattle.definitions.specs.World.{Game}
use Rattle.session_log.specs.Spelling.{entries_bytes, first_chain, log_bytes}
use Rattle.session_log.specs.Laws.{AreBytes, EndsSo, IsFaultAt, IsLogOf}
use Rattle.session_log.specs.Reading.{Ending, fault_at}
use Rattle.session_log.proofs.Logs.{log_ends}
use Rattle.old_log.specs.Old.{dropped_at, fault_place, old_entries, old_fault, place_said}
use Rattle.std.proofs.lemmas.Bool.{ltb-false}
use Rattle.std.proofs.Math.Seq.{take-length}
use Rattle.definitions.specs.declared.limits.TheConstants.{LONGEST_LOG}
use Rattle.definitions.specs.Honest.{IsHonest}
use Rattle.peer_core.specs.Views.{PeerState}
use Rattle.wire_frames.specs.Reading.{at_start}
use Rattle.lethwyrn_c.specs.declared.link.TheConstants.{LINKS}
use Rattle.lethwyrn_c.specs.Calls.{IsGoneOn, IsThere, kept_at}
use Rattle.lethwyrn_c.specs.Standings.{Standing}
use Rattle.old_log.proofs.Owners.{own_first}

-- ---- the log begins with the bytes of what was read

-- the log is these entries' bytes and a rest: none without a fault, and else the fault is where it begins
record IsFront (id : List ℕ) (me : ℕ) (log : List ℕ) (es : List Entry) (last : Ending) : Type 0 where
  rest : List ℕ
  bytes_are : log ≡ log_bytes id me es ++ rest
  whole : fault_place last ≡ None → rest ≡ []
  at : length (log_bytes id me es) ≡ kept_at es (fault_place last) (length log)

-- a log with entries that begins with this player's byte
abbrev Begins : ℕ → List ℕ → List Entry → Type 0
Begins me log es = (e : Entry) (more : List Entry) → es ≡ e ∷ more → (rest : List ℕ) × (log ≡ me ∷ rest)

-- whose entries these are
owner_is : (me m : ℕ) (log rest : List ℕ) (e : Entry) (es : List Entry) → log ≡ m ∷ rest → Begins me log (e ∷ es) → m ≡ me
owner_is me m log rest e es at begins = let b : log ≡ me ∷ (begins e es refl).0 = (begins e es refl).1 in cc

empty_front : (id : List ℕ) (me : ℕ) (log : List ℕ) (last : Ending) → (fault_place last ≡ None → log ≡ []) → IsFront id me log [] last
empty_front id me log last h = record { rest = log; bytes_are = refl; whole = h; at = refl }

there_front : (game : Game) (me place : ℕ) (log : List ℕ) (e : Entry) (es : List Entry) (last : Ending) (m : ℕ) (rest : List ℕ) → fault_place last ≡ Some place → Begins me log (e ∷ es) →
    log ≡ m ∷ (entries_bytes (first_chain game.id m) (e ∷ es) ++ rest) → place ≡ 1 + length (entries_bytes (first_chain game.id m) (e ∷ es)) → IsFront game.id me log (e ∷ es) last
there_front game me place log e es last m rest some begins bytes there =
    let same = owner_is me m log _ e es bytes begins in
    let size : length (log_bytes game.id m (e ∷ es)) ≡ place = omega (arith, there) in
    let long : length (log_bytes game.id me (e ∷ es)) ≡ place = ap (λ (o : ℕ). length (log_bytes game.id o (e ∷ es))) (sym same) ∙ size in
    record {
      rest = rest;
      bytes_are = bytes ∙ ap (λ (o : ℕ). log_bytes game.id o (e ∷ es) ++ rest) same;
      whole = λ h. absurd (let k : Some place ≡ None = sym some ∙ h in cc);
      at = long ∙ ap (λ (o : Option ℕ). kept_at (e ∷ es) o (length log)) (sym some);
    }

whole_front : (game : Game) (me : ℕ) (log : List ℕ) (e : Entry) (es : List Entry) → Begins me log (e ∷ es) → IsLogOf game log (e ∷ es) → IsFront game.id me log (e ∷ es) (Ok tt)
whole_front game me log e es begins l =
    let same = owner_is me l.me log _ e es l.bytes_are begins in
    let is : log ≡ log_bytes game.id me (e ∷ es) = l.bytes_are ∙ ap (λ (o : ℕ). log_bytes game.id o (e ∷ es)) same in
    record { rest = []; bytes_are = is ∙ sym (append-nil (log_bytes game.id me (e ∷ es))); whole = λ h. refl; at = ap length (sym is) }

none_of_all : (e : Entry) (es : List Entry) → e ∷ es ≡ [] → ⊥
none_of_all e es h = cc

-- a fault is where the entries end
fault_front : (game : Game) (me : ℕ) (log : List ℕ) (e : Entry) (es : List Entry) (at : ℕ) (why : LogWhy) → Begins me log (e ∷ es) → IsFaultAt game log (e ∷ es) at why → IsFront game.id me log (e ∷ es) (Err (fault_at at why))
fault_front game me log e es at TooLong own h = absurd h
fault_front game me log e es at Torn own h =
    elim h [ inl s ↦ there_front game me at log e es (Err (fault_at at Torn)) s.me s.rest refl own s.bytes_are s.place_is | inr a ↦ absurd (none_of_all e es a.3) ]
fault_front game me log e es at BadChain own h = there_front game me at log e es (Err (fault_at at BadChain)) h.me h.rest refl own h.bytes_are h.place_is
fault_front game me log e es at BadEntry own h =
    elim h [ inl s ↦ there_front game me at log e es (Err (fault_at at BadEntry)) s.me s.rest refl own s.bytes_are s.place_is | inr a ↦ absurd (none_of_all e es a.4) ]
fault_front game me log e es at NotReplayed own h = absurd h

front_by : (game : Game) (me : ℕ) (log : List ℕ) (es : List Entry) (last : Ending) → Begins me log es → EndsSo game log es last → IsFront game.id me log es last
front_by game me log [] (Ok whole) own h = empty_front game.id me log (Ok whole) (λ n. h.bytes_are)
front_by game me log [] (Err fault) own h = empty_front game.id me log (Err fault) (λ n. absurd (let k : Some fault.at ≡ None = n in cc))
front_by game me log (e ∷ es) (Ok whole) own h = whole_front game me log e es own h
front_by game me log (e ∷ es) (Err fault) own h = fault_front game me log e es fault.at fault.why own h

-- what a log that isn't refused keeps
pub record IsKeptOf (game : Game) (me : ℕ) (log : List ℕ) (es : List Entry) (dropped : Option ℕ) : Type 0 where
  pub rest : List ℕ
  pub bytes_are : log ≡ log_bytes game.id me es ++ rest
  pub whole : dropped ≡ None → rest ≡ []
  pub at : length (log_bytes game.id me es) ≡ kept_at es dropped (length log)

pub kept_of : (game : Game) (me : ℕ) (log : List ℕ) → AreBytes log → old_fault game me log ≡ None → IsKeptOf game me log (old_entries game log) (dropped_at game log)
kept_of game me log are fit =
    let ends = log_ends game log are in
    let f : IsFront game.id me log (old_entries game log) ends.0 = front_by game me log (old_entries game log) ends.0 (own_first game me log fit) ends.2 in
    let last : dropped_at game log ≡ fault_place ends.0 = ap place_said ends.1 in
    record { rest = f.rest; bytes_are = f.bytes_are; whole = λ h. f.whole (sym last ∙ h); at = f.at ∙ ap (λ (o : Option ℕ). kept_at (old_entries game log) o (length log)) (sym last) }

-- ---- a peer that goes on from a log

-- a log that isn't refused isn't too long
short_log : (b : Bool) (f : LogFault) (h : Option LogFault) → (if b then Some f else h) ≡ None → b ≡ false
short_log true f h e = absurd (let k : Some f ≡ None = e in cc)
short_log false f h e = refl

pub log_short : (game : Game) (me : ℕ) (log : List ℕ) → old_fault game me log ≡ None → length log ≤ LONGEST_LOG
log_short game me log fit = ltb-false LONGEST_LOG (length log) (short_log (nat_lt LONGEST_LOG (length log)) _ _ fit)

-- all of its entries count as handed out and stored
abbrev pub seated : PeerState → Standing
seated p = record { peer = p; links = replicate LINKS at_start; given = length p.entries; stored = length p.entries; sent = 0 }

gone_on_by : (game : Game) (me : ℕ) (log : List ℕ) (es : List Entry) → es ≡ old_entries game log → IsHonest game me es → IsKeptOf game me log (old_entries game log) (dropped_at game log) →
    IsGoneOn game me log (seated (record { game = game; me = me; entries = es }))
gone_on_by game me log es is honest k =
    let all : take (length es) es ≡ es = take-length es in
    let front : log_bytes game.id me (take (length es) es) ≡ log_bytes game.id me (old_entries game log) = ap (log_bytes game.id me) (all ∙ is) in
    record {
      game_is = refl;
      me = refl;
      entries = is;
      honest = honest;
      kept = record {
        rest = k.rest;
        bytes_are = k.bytes_are ∙ ap (λ (xs : List ℕ). xs ++ k.rest) (sym front);
        at_is = ap (λ (xs : List ℕ). length xs) front ∙ k.at;
        whole = k.whole;
      };
      links = refl;
      given = refl;
      stored = refl;
      sent = refl;
    }

pub gone_on : (game : Game) (me : ℕ) (log : List ℕ) (p : PeerState) (v : Option Standing) → AreBytes log → v ≡ Some (seated p) → p ≡ record { game = game; me = me; entries = old_entries game log } →
    IsHonest game me p.entries → old_fault game me log ≡ None → IsThere (IsGoneOn game me log) v
gone_on game me log p v are at is honest fit =
    let es : p.entries ≡ old_entries game log = ap (λ (q : PeerState). q.entries) is in
    let k = kept_of game me log are fit in
    let h : IsHonest game me (old_entries game log) = subst (λ (l : List Entry). IsHonest game me l) es honest in
    let there : IsGoneOn game me log (seated (record { game = game; me = me; entries = old_entries game log })) = gone_on_by game me log (old_entries game log) refl h k in
    subst (λ (w : Option Standing). IsThere (IsGoneOn game me log) w) (ap (λ (q : PeerState). Some (seated q)) (sym is) ∙ sym at) there
