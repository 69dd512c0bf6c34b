-- Steps: what is known of one socket after each item.
use Rattle.std.proofs.Common.{◌≡◌, inl, ℕ, Bool, true, false, refl, sym, ap, subst, ◌∙◌, List, [], ◌∷◌, ◌++◌, length}
use Rattle.std.specs.Prelude.{Option, Some, None, ◌==◌, ◌||◌, not, nat_lt, if◌then◌else◌}
use Rattle.std.specs.List.{fold}
use Rattle.std.proofs.lemmas.Bool.{and_parts, eqb-true, eq-eqb, false≢true}
use Rattle.definitions.specs.declared.frames.TurnFrame.{TurnFrame}
use Rattle.definitions.specs.declared.logs.Entry.{Entry}
use Rattle.definitions.specs.Findings.{is_clean}
use Rattle.definitions.specs.Answers.{is_far}
use Rattle.definition_laws.specs.Members.{Has}
use Rattle.definition_laws.proofs.Members.{Has_front}
use Rattle.wire_frames.specs.Reading.{Reading}
use Rattle.wire_frames.specs.Streams.{Given, given_of}
use Rattle.rosters.specs.declared.roster.Link.{Link}
use Rattle.socket_station.specs.declared.answers.Ready.{Ready}
use Rattle.socket_station.specs.declared.answers.Ready.TheVariants.{Opened, Socket as Seems}
use Rattle.socket_station.specs.Items.{Item, ListenCall, LogCall, DialCall, PollCall, ReadCall, WriteCall, KeepCall, SyncCall, Listening, LogBegun, Dialled, Polled, Took, Gave, ReadNotYet, WriteNotYet, Ended, Failed, Shut, Kept, Synced}
use Rattle.socket_station.specs.Standings.{opens}
use Rattle.socket_station.specs.Laws.{is_opening}
use Rattle.socket_lines.specs.declared.limits.TheConstants.{MOST_ACCEPTED}
use Rattle.socket_lines.specs.declared.line.Line.{Line}
use Rattle.socket_lines.specs.declared.seat.Seat.{Seat}
use Rattle.socket_lines.specs.Seats.{asks, is_asked_for, dials, rests, spends}
use Rattle.socket_lines.specs.Asks.{is_asked}
use Rattle.socket_lines.specs.Lines.{accepted_line, dialled_line, blocked, closed, quieted, woken, player_of}
use Rattle.peer_rules.specs.declared.arrivals.Arrival.{Arrival}
use Rattle.loop_rules.specs.Settings.{Setting, speaker_of}
use Rattle.loop_rules.specs.Tables.{Table, line_of, seat_by, at_line, at_seat}
use Rattle.loop_rules.specs.Views.{View, safe_frames}
use Rattle.loop_rules.specs.Hearing.{counted, counted_on, read_at, read_on, heard_all, took_on, took_with}
use Rattle.loop_rules.specs.Handling.{with_waiting, hearer_of, next_of, passed, is_new_to, sorted}
use Rattle.loop_rules.specs.Keeping.{with_entry, kept_entry}
use Rattle.peer_rules.specs.Entries.{entry_in}
use Rattle.loop_rules.specs.After.{after, with_table, listed, rested, gave_by}
use Rattle.loop_rules.specs.Rules.{is_allowed, are_due}
use Rattle.loop_rules.specs.Told.{Differ}
use Rattle.loop_laws.proofs.Finds.{line_in, IfLine, if_own, if_other, if_either, if_more, if_open}
use Rattle.loop_laws.proofs.Speakers.{Facts, no_facts, Told, Said, More, told_more, told_marked, said_more}
use Rattle.loop_laws.proofs.Frames.{OwnMore, asked_more, named_more}
use Rattle.loop_laws.proofs.Hearing.{Linked, links_mapped, links_at, links_all, other_stays, so_all}
use Rattle.loop_laws.proofs.Giving.{links_gave, other_gave, own_gave, said_gave, with_given}
use Rattle.loop_laws.proofs.Speakers.{told_doomed, with_came}

-- ---- what an item says of the socket

abbrev pub with_taken : Facts → (bytes : List ℕ) → Facts
with_taken facts bytes = let g = given_of facts.reader bytes in record facts { reader = g.reader; came = facts.came ++ g.frames }

abbrev pub with_dialled : Facts → (player : ℕ) → Facts
with_dialled facts q = record facts { dialled = facts.dialled ++ q ∷ [] }

abbrev pub facts_after : (socket : ℕ) → Facts → Item → Facts
facts_after n facts (Dialled m q addr) = if m == n then with_dialled facts q else facts
facts_after n facts (Took m bytes) = if m == n then with_taken facts bytes else facts
facts_after n facts (Gave m bytes) = if m == n then with_given facts (facts.given ++ bytes) else facts
facts_after n facts _ = facts

-- ---- it is as much as before, but for bytes given

more_same : (s : Setting) (own : List TurnFrame) (facts : Facts) → More s own own facts facts
more_same s own facts = record { owns = λ place f e. e; dialled = λ q x. x; asked = λ place a. a; named = λ q x. x; given = refl }

more_dialled : (s : Setting) (own : List TurnFrame) (facts : Facts) (q : ℕ) → More s own own facts (with_dialled facts q)
more_dialled s own facts q =
    record { owns = λ place f e. e; dialled = λ p x. Has_front facts.dialled (q ∷ []) p x; asked = λ place a. a; named = λ p x. x; given = refl }

more_taken : (s : Setting) (own : List TurnFrame) (facts : Facts) (bytes : List ℕ) → More s own own facts (with_taken facts bytes)
more_taken s own facts bytes =
    let g = given_of facts.reader bytes in
    record { owns = λ place f e. e; dialled = λ p x. x; asked = asked_more facts.came g.frames; named = named_more s facts.came g.frames; given = refl }

said_dialled : (s : Setting) (own : List TurnFrame) (facts : Facts) (q : ℕ) (b : Bool) → Said s own facts → Said s own (if b then with_dialled facts q else facts)
said_dialled s own facts q true k = said_more s own own facts (with_dialled facts q) (more_dialled s own facts q) k
said_dialled s own facts q false k = k

said_taken : (s : Setting) (own : List TurnFrame) (facts : Facts) (bytes : List ℕ) (b : Bool) → Said s own facts → Said s own (if b then with_taken facts bytes else facts)
said_taken s own facts bytes true k = said_more s own own facts (with_taken facts bytes) (more_taken s own facts bytes) k
said_taken s own facts bytes false k = k

-- ---- what waits is handled

passed_table : (P : Table → Type 0) (v : View) (a : Arrival) → ((place : ℕ) → P v.table → P (at_seat a.player (asks place) v.table)) → P v.table → P (passed v a).table
passed_table P v a k p = go (is_far v.setting.game v.setting.me v.kept a.player a.frame)
  where
    go : (b : Bool) → P (if b then record v { table = at_seat a.player (asks (next_of v a.player)) v.table } else v).table
    go true = k (next_of v a.player) p
    go false = p

-- what holds of a table, whatever waits and whoever is to be asked, holds after it
pub sorted_table : (P : Table → Type 0) → ((t : Table) (waiting : List Arrival) → P t → P (record t { waiting = waiting })) → ((t : Table) (q place : ℕ) → P t → P (at_seat q (asks place) t)) →
    (arrivals : List Arrival) (v : View) → P v.table → P (sorted arrivals v).table
sorted_table P w k [] v p = w v.table [] p
sorted_table P w k (a ∷ more) v p = go (not (is_clean v.setting.game v.kept)) (is_new_to v a) (sorted_table P w k more (passed v a) (passed_table P v a (λ place x. k v.table a.player place x) p))
  where
    go : (b c : Bool) → P (sorted more (passed v a)).table → P (if b then with_waiting [] v else if c then with_waiting (a ∷ more) v else sorted more (passed v a)).table
    go true c x = w v.table [] p
    go false true x = w v.table (a ∷ more) p
    go false false x = x

pub asks_link : (place : ℕ) (c : Seat) → (asks place c).link ≡ c.link
asks_link place c = go (is_asked c.asks place)
  where
    go : (b : Bool) → (if b then c else is_asked_for place c).link ≡ c.link
    go true = refl
    go false = refl

links_sorted : (L : Link → Type 0) (arrivals : List Arrival) (v : View) → Linked L v.table.seats → Linked L (sorted arrivals v).table.seats
links_sorted L arrivals v k = sorted_table (λ t. Linked L t.seats) (λ t w x. x) (λ t q place x. links_at L q (asks place) t.seats (asks_link place) x) arrivals v k

pub line_sorted : (P : Line → Type 0) (n : ℕ) (arrivals : List Arrival) (v : View) → IfLine P (line_in n v.table.lines) → IfLine P (line_in n (sorted arrivals v).table.lines)
line_sorted P n arrivals v p = sorted_table (λ t. IfLine P (line_in n t.lines)) (λ t w x. x) (λ t q place x. x) arrivals v p

-- ---- the players' links

pub links_counted : (L : Link → Type 0) (o : Option ℕ) (count : ℕ) (t : Table) → Linked L t.seats → Linked L (counted o count t).seats
links_counted L None count t k = k
links_counted L (Some q) count t k = links_at L q (spends count) t.seats (λ c. refl) k

links_took : (L : Link → Type 0) (v : View) (m : ℕ) (bytes : List ℕ) (o : Option Line) → Linked L v.table.seats → Linked L (took_with (hearer_of v) v.table m bytes o).seats
links_took L v m bytes None k = k
links_took L v m bytes (Some l) k =
    let g = given_of l.reader bytes in
    links_all L (hearer_of v) m g (read_at m (length bytes) g l v.table) (links_counted L l.name (length bytes) (at_line m (read_on (length bytes) g) v.table) k)

links_one : (L : Link → Type 0) (t : Table) (r : Ready) → Linked L t.seats → Linked L (listed t r).seats
links_one L t (Opened m) k = k
links_one L t (Seems m) k = k

links_listed : (L : Link → Type 0) (t : Table) (list : List Ready) → Linked L t.seats → Linked L (fold listed t list).seats
links_listed L t [] k = k
links_listed L t (r ∷ list) k = links_listed L (listed t r) list (links_one L t r k)

links_kept : (L : Link → Type 0) (v : View) (o : Option Entry) → Linked L v.table.seats → Linked L (kept_entry v o).table.seats
links_kept L v None k = k
links_kept L v (Some e) k = links_sorted L (with_entry e v).table.waiting (with_entry e v) k

pub links_after : (v : View) (item : Item) → Linked (λ link. Has v.setting.roster.links link) v.table.seats → Linked (λ link. Has v.setting.roster.links link) (after v item).table.seats
links_after v (LogBegun name) k = k
links_after v (Listening addr) k = k
links_after v (Dialled m q addr) k = links_at (λ link. Has v.setting.roster.links link) q dials v.table.seats (λ c. refl) k
links_after v (Polled list) k =
    links_listed (λ link. Has v.setting.roster.links link) (rested v.table) list (links_mapped (λ link. Has v.setting.roster.links link) rests v.table.seats (λ c. refl) k)
links_after v (Took m bytes) k =
    let w = with_table (took_on (hearer_of v) m bytes v.table) v in
    links_sorted (λ link. Has v.setting.roster.links link) w.table.waiting w (links_took (λ link. Has v.setting.roster.links link) v m bytes (line_of v.table m) k)
links_after v (Gave m bytes) k = links_gave v.setting (safe_frames v) (length bytes) v.table (line_of v.table m) k
links_after v (ReadNotYet m) k = k
links_after v (WriteNotYet m) k = k
links_after v (Ended m) k = k
links_after v (Shut m) k = k
links_after v (Kept bytes) k = links_kept (λ link. Has v.setting.roster.links link) v (entry_in v.writer bytes) k
links_after v Synced k = k
links_after v (Failed (ListenCall addr)) k = k
links_after v (Failed (LogCall name)) k = k
links_after v (Failed (DialCall q addr)) k = links_at (λ link. Has v.setting.roster.links link) q dials v.table.seats (λ c. refl) k
links_after v (Failed PollCall) k = k
links_after v (Failed (ReadCall m)) k = k
links_after v (Failed (WriteCall m)) k = k
links_after v (Failed (KeepCall bytes)) k = k
links_after v (Failed SyncCall) k = k

-- ---- sockets that open

told_dialled : (s : Setting) (own : List TurnFrame) (facts : Facts) (n q next : ℕ) → facts ≡ no_facts → Told s own (with_dialled facts q) (dialled_line n q next)
told_dialled s own facts n q next e = subst (λ (x : Facts). Told s own (with_dialled x q) (dialled_line n q next)) (sym e) (record {
  reads = refl;
  unnamed = λ a b. refl;
  named = tt;
  by = inl refl;
  frames = [];
  last = None;
  given = refl;
  begun = λ x. refl;
  jump = tt;
  cursor = inl refl;
  spoken = (refl, refl, λ x. absurd (let z : Some next ≡ None = x in cc));
})

told_accepted : (s : Setting) (own : List TurnFrame) (facts : Facts) (n : ℕ) (wrong : Bool) → facts ≡ no_facts → Told s own facts (accepted_line n wrong)
told_accepted s own facts n wrong e = subst (λ (x : Facts). Told s own x (accepted_line n wrong)) (sym e) (record {
  reads = refl;
  unnamed = λ a b. refl;
  named = tt;
  by = tt;
  frames = [];
  last = None;
  given = refl;
  begun = λ x. refl;
  jump = tt;
  cursor = inl refl;
  spoken = (refl, refl, λ x. (refl, refl));
})

module _ (s : Setting) (own : List TurnFrame) (facts : Facts) (n : ℕ) where
  abbrev So : Table → Type 0
  So t = IfLine (Told s own facts) (line_in n t.lines)

  line_dialled : (t : Table) (m q next : ℕ) (b : Bool) → (m == n) ≡ b → ((m == n) ≡ true → facts ≡ no_facts) → So t →
      IfLine (Told s own (if b then with_dialled facts q else facts)) (line_in n (t.lines ++ dialled_line m q next ∷ []))
  line_dialled t m q next true e new p =
      if_more (Told s own (with_dialled facts q)) n (dialled_line m q next) t.lines (λ x. told_dialled s own facts m q next (new x)) (more_line (line_in n t.lines) p)
    where
      more_line : (o : Option Line) → IfLine (Told s own facts) o → IfLine (Told s own (with_dialled facts q)) o
      more_line None x = tt
      more_line (Some l) x = told_more s own own facts (with_dialled facts q) l (more_dialled s own facts q) refl x.unnamed x
  line_dialled t m q next false e new p = if_more (Told s own facts) n (dialled_line m q next) t.lines (λ x. absurd (false≢true (sym e ∙ x))) p

  line_one : (t : Table) (r : Ready) → (opens (r ∷ []) n ≡ true → facts ≡ no_facts) → So t → So (listed t r)
  line_one t (Opened m) new p =
      let wrong = not (nat_lt t.accepted MOST_ACCEPTED) in
      if_more (Told s own facts) n (accepted_line m wrong) t.lines (λ x. told_accepted s own facts m wrong (new (ap (λ (b : Bool). b || false) x))) p
  line_one t (Seems m) new p = if_either (Told s own facts) n m woken t.lines (λ l. refl) (λ l k. told_marked s own facts l l.is_open false false k) p

  line_listed : (t : Table) (list : List Ready) → (opens list n ≡ true → facts ≡ no_facts) → So t → So (fold listed t list)
  line_listed t [] new p = p
  line_listed t (Opened m ∷ list) new p =
      line_listed (listed t (Opened m)) list (λ x. new (or_second (m == n) (opens list n) x)) (line_one t (Opened m) (λ x. new (or_first (m == n) (opens list n) x)) p)
    where
      or_second : (a b : Bool) → b ≡ true → (a || b) ≡ true
      or_second true b x = refl
      or_second false b x = x

      or_first : (a b : Bool) → (a || false) ≡ true → (a || b) ≡ true
      or_first true b x = refl
      or_first false b x = absurd (false≢true x)
  line_listed t (Seems m ∷ list) new p = line_listed (listed t (Seems m)) list new (line_one t (Seems m) (λ x. absurd (false≢true x)) p)

  -- the line is changed in what is told of nowhere
  line_marked : (m : ℕ) (change : Line → Line) (t : Table) → ((l : Line) → (change l).socket ≡ l.socket) → ((l : Line) → Told s own facts l → Told s own facts (change l)) → So t → So (at_line m change t)
  line_marked m change t keeps k p = if_either (Told s own facts) n m change t.lines keeps k p

  line_closed : (m : ℕ) (t : Table) → So t → So (at_line m closed t)
  line_closed m t p = line_marked m closed t (λ l. refl) (λ l k. told_marked s own facts l false l.is_quiet l.is_blocked k) p

  line_kept : (v : View) (o : Option Entry) → So v.table → So (kept_entry v o).table
  line_kept v None p = p
  line_kept v (Some e) p = line_sorted (Told s own facts) n (with_entry e v).table.waiting (with_entry e v) p

-- ---- bytes that come

pub flip : (m n : ℕ) → (m == n) ≡ false → (n == m) ≡ false
flip m n e = go (n == m) refl
  where
    go : (b : Bool) → (n == m) ≡ b → b ≡ false
    go true x = sym (eq-eqb m n (sym (eqb-true n m x))) ∙ e
    go false x = refl

pub counted_lines : (P : Line → Type 0) (n : ℕ) (o : Option ℕ) (count : ℕ) (t : Table) → IfLine P (line_in n t.lines) → IfLine P (line_in n (counted o count t).lines)
counted_lines P n None count t p = p
counted_lines P n (Some q) count t p = p

pub told_read : (s : Setting) (own : List TurnFrame) (facts : Facts) (l : Line) (count : ℕ) (g : Given) → Told s own facts l → Told s own (record facts { reader = g.reader }) (read_on count g l)
told_read s own facts l count g k = go l.name refl
  where
    go : (o : Option ℕ) → l.name ≡ o → Told s own (record facts { reader = g.reader }) (record (counted_on o count l) { reader = g.reader })
    go None e = record {
      reads = refl;
      unnamed = k.unnamed;
      named = k.named;
      by = k.by;
      frames = k.frames;
      last = k.last;
      given = k.given;
      begun = k.begun;
      jump = k.jump;
      cursor = k.cursor;
      spoken = k.spoken;
    }
    go (Some q) e = record {
      reads = refl;
      unnamed = k.unnamed;
      named = k.named;
      by = k.by;
      frames = k.frames;
      last = k.last;
      given = k.given;
      begun = k.begun;
      jump = k.jump;
      cursor = k.cursor;
      spoken = k.spoken;
    }

pub read_keeps : (count : ℕ) (g : Given) (l : Line) → (read_on count g l).socket ≡ l.socket
read_keeps count g l = go l.name
  where
    go : (o : Option ℕ) → (record (counted_on o count l) { reader = g.reader }).socket ≡ l.socket
    go None = refl
    go (Some q) = refl

-- on another socket
other_took : (s : Setting) (own : List TurnFrame) (facts : Facts) (n m : ℕ) (v : View) (bytes : List ℕ) (o : Option Line) → (n == m) ≡ false → IfLine (Told s own facts) (line_in n v.table.lines) →
    IfLine (Told s own facts) (line_in n (took_with (hearer_of v) v.table m bytes o).lines)
other_took s own facts n m v bytes None other p = p
other_took s own facts n m v bytes (Some l) other p =
    let g = given_of l.reader bytes in
    let t = at_line m (read_on (length bytes) g) v.table in
    other_stays (Told s own facts) (hearer_of v) n m other (λ x k. told_doomed s own facts x k) g (counted l.name (length bytes) t)
    (counted_lines (Told s own facts) n l.name (length bytes) t (if_other (Told s own facts) n m (read_on (length bytes) g) v.table.lines other (λ x e. read_keeps (length bytes) g x) p))

-- on the socket itself
own_took : (v : View) (own : List TurnFrame) (facts : Facts) (n : ℕ) (bytes : List ℕ) (o : Option Line) → line_in n v.table.lines ≡ o → Linked (λ link. Has v.setting.roster.links link) v.table.seats →
    IfLine (Told v.setting own facts) (line_in n v.table.lines) → IfLine (Told v.setting own (with_taken facts bytes)) (line_in n (took_with (hearer_of v) v.table n bytes o).lines)
own_took v own facts n bytes None e k p = subst (IfLine (Told v.setting own (with_taken facts bytes))) (sym e) tt
own_took v own facts n bytes (Some l) e k p =
    let s = v.setting in
    let L : Link → Type 0 = λ link. Has s.roster.links link in
    let g = given_of l.reader bytes in
    let read : Facts = record facts { reader = g.reader } in
    let t = at_line n (read_on (length bytes) g) v.table in
    let known : Told s own facts l = subst (IfLine (Told s own facts)) e p in
    let first : IfLine (Told s own read) (line_in n t.lines) =
    if_own (Told s own facts) (Told s own read) n (read_on (length bytes) g) v.table.lines (λ x q. read_keeps (length bytes) g x) (λ x q y. told_read s own facts x (length bytes) g y) p in
    let out : IfLine (Told s own (with_came read (facts.came ++ g.frames))) (line_in n (heard_all (hearer_of v) n g (counted l.name (length bytes) t)).lines) =
    so_all s own read (hearer_of v) n refl facts.came g (counted l.name (length bytes) t) (links_counted L l.name (length bytes) t k)
    (counted_lines (Told s own read) n l.name (length bytes) t first) in
    subst (λ (r : Reading). IfLine (Told s own (let h = given_of r bytes in record facts { reader = h.reader; came = facts.came ++ h.frames })) (line_in n (heard_all (hearer_of v) n g (counted l.name (length bytes) t)).lines)) known.reads out

-- ---- all items

-- the item may come after the view, and the socket is new where it opens it
module _ (v : View) (facts : Facts) (n : ℕ) (links : Linked (λ link. Has v.setting.roster.links link) v.table.seats) (differ : Differ v.table.lines)
    (p : IfLine (Told v.setting (safe_frames v) facts) (line_in n v.table.lines)) where
  abbrev safe : List TurnFrame
  safe = safe_frames v

  abbrev After : Item → Type 0
  After item = IfLine (Told v.setting safe (facts_after n facts item)) (line_in n (after v item).table.lines)

  after_took : (m : ℕ) (bytes : List ℕ) → After (Took m bytes)
  after_took m bytes =
      let w = with_table (took_on (hearer_of v) m bytes v.table) v in
      line_sorted (Told v.setting safe (facts_after n facts (Took m bytes))) n w.table.waiting w (go (m == n) refl)
    where
      go : (b : Bool) → (m == n) ≡ b → IfLine (Told v.setting safe (if b then with_taken facts bytes else facts)) (line_in n (took_on (hearer_of v) m bytes v.table).lines)
      go true e =
          subst (λ (x : ℕ). IfLine (Told v.setting safe (with_taken facts bytes)) (line_in n (took_on (hearer_of v) x bytes v.table).lines)) (sym (eqb-true m n e))
          (own_took v safe facts n bytes (line_of v.table n) refl links p)
      go false e = other_took v.setting safe facts n m v bytes (line_of v.table m) (flip m n e) p

  own_line : (bytes : List ℕ) (o : Option Line) → line_in n v.table.lines ≡ o → are_due v bytes o ≡ true →
      IfLine (Told v.setting safe (with_given facts (facts.given ++ bytes))) (line_in n (gave_by (speaker_of v.setting) safe (length bytes) v.table o).lines)
  own_line bytes None e h = absurd (false≢true h)
  own_line bytes (Some l) e h = own_gave v.setting safe facts n bytes v.table l links e h (subst (IfLine (Told v.setting safe facts)) e p)

  after_gave : (m : ℕ) (bytes : List ℕ) → are_due v bytes (line_of v.table m) ≡ true → After (Gave m bytes)
  after_gave m bytes h = go (m == n) refl
    where
      go : (b : Bool) → (m == n) ≡ b →
          IfLine (Told v.setting safe (if b then with_given facts (facts.given ++ bytes) else facts)) (line_in n (gave_by (speaker_of v.setting) safe (length bytes) v.table (line_of v.table m)).lines)
      go true e =
          let same = eqb-true m n e in
          subst (λ (x : ℕ). IfLine (Told v.setting safe (with_given facts (facts.given ++ bytes))) (line_in n (gave_by (speaker_of v.setting) safe (length bytes) v.table (line_of v.table x)).lines)) (sym same)
          (own_line bytes (line_of v.table n) refl (subst (λ (x : ℕ). are_due v bytes (line_of v.table x) ≡ true) same h))
      go false e = other_gave v.setting (Told v.setting safe facts) n m safe (length bytes) v.table (line_of v.table m) (flip m n e) refl p

  pub line_after : (item : Item) → is_allowed v item ≡ true → (is_opening item n ≡ true → facts ≡ no_facts) → After item
  line_after (LogBegun name) h new = p
  line_after (Listening addr) h new = p
  line_after (Dialled m q addr) h new = line_dialled v.setting safe facts n v.table m q ((hearer_of v).next q) (m == n) refl new p
  line_after (Polled list) h new = line_listed v.setting safe facts n (rested v.table) list new (if_open (Told v.setting safe facts) n v.table.lines differ p)
  line_after (Took m bytes) h new = after_took m bytes
  line_after (Gave m bytes) h new = after_gave m bytes (and_parts _ _ h).1
  line_after (ReadNotYet m) h new =
      line_marked v.setting safe facts n m quieted v.table (λ l. refl) (λ l k. told_marked v.setting safe facts l l.is_open true l.is_blocked k) p
  line_after (WriteNotYet m) h new =
      line_marked v.setting safe facts n m blocked v.table (λ l. refl) (λ l k. told_marked v.setting safe facts l l.is_open l.is_quiet true k) p
  line_after (Ended m) h new = line_closed v.setting safe facts n m v.table p
  line_after (Shut m) h new = line_closed v.setting safe facts n m v.table p
  line_after (Kept bytes) h new = line_kept v.setting safe facts n v (entry_in v.writer bytes) p
  line_after Synced h new = p
  line_after (Failed (ListenCall addr)) h new = p
  line_after (Failed (LogCall name)) h new = p
  line_after (Failed (DialCall q addr)) h new = p
  line_after (Failed PollCall) h new = p
  line_after (Failed (ReadCall m)) h new = line_closed v.setting safe facts n m v.table p
  line_after (Failed (WriteCall m)) h new = line_closed v.setting safe facts n m v.table p
  line_after (Failed (KeepCall bytes)) h new = p
  line_after (Failed SyncCall) h new = p

  said_line : (bytes : List ℕ) (o : Option Line) → line_in n v.table.lines ≡ o → are_due v bytes o ≡ true → Said v.setting safe (with_given facts (facts.given ++ bytes))
  said_line bytes None e h = absurd (false≢true h)
  said_line bytes (Some l) e h =
      said_gave v.setting safe facts bytes v.table l (seat_by v.table (player_of l)) links refl h (subst (IfLine (Told v.setting safe facts)) e p)

  said_given : (m : ℕ) (bytes : List ℕ) (b : Bool) → (m == n) ≡ b → are_due v bytes (line_of v.table m) ≡ true → Said v.setting safe facts →
      Said v.setting safe (if b then with_given facts (facts.given ++ bytes) else facts)
  said_given m bytes true e h k =
      said_line bytes (line_of v.table n) refl (subst (λ (x : ℕ). are_due v bytes (line_of v.table x) ≡ true) (eqb-true m n e) h)
  said_given m bytes false e h k = k

  pub said_after : (item : Item) → is_allowed v item ≡ true → Said v.setting safe facts → Said v.setting safe (facts_after n facts item)
  said_after (LogBegun name) h k = k
  said_after (Listening addr) h k = k
  said_after (Dialled m q addr) h k = said_dialled v.setting safe facts q (m == n) k
  said_after (Polled list) h k = k
  said_after (Took m bytes) h k = said_taken v.setting safe facts bytes (m == n) k
  said_after (Gave m bytes) h k = said_given m bytes (m == n) refl (and_parts _ _ h).1 k
  said_after (ReadNotYet m) h k = k
  said_after (WriteNotYet m) h k = k
  said_after (Ended m) h k = k
  said_after (Shut m) h k = k
  said_after (Kept bytes) h k = k
  said_after Synced h k = k
  said_after (Failed call) h k = k

-- ---- more own frames

more_owns : (s : Setting) (own made : List TurnFrame) (facts : Facts) → OwnMore own made → More s own made facts facts
more_owns s own made facts o = record { owns = o; dialled = λ q x. x; asked = λ place a. a; named = λ q x. x; given = refl }

pub line_owns : (s : Setting) (own made : List TurnFrame) (facts : Facts) (o : Option Line) → OwnMore own made → IfLine (Told s own facts) o → IfLine (Told s made facts) o
line_owns s own made facts None m k = tt
line_owns s own made facts (Some l) m k = told_more s own made facts facts l (more_owns s own made facts m) refl k.unnamed k

pub said_owns : (s : Setting) (own made : List TurnFrame) (facts : Facts) → OwnMore own made → Said s own facts → Said s made facts
said_owns s own made facts m k = said_more s own made facts facts (more_owns s own made facts m) k
