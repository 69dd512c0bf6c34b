-- Quiet: calls of the machine that move no bytes and touch no file.
use Rattle.std.proofs.Common.{◌≡◌, inl, inr, ℕ, Bool, true, false, List, [], ◌∷◌, ◌++◌, Option, Some, None, refl, sym, ap, ◌∙◌}
use Rattle.std.specs.Prelude.{Result, Ok, Err}
use Rattle.std.specs.List.{fold}
use Rattle.std.proofs.lemmas.List.{append_assoc, append-nil}
use Rattle.std.proofs.lemmas.Grind.{flat_map-append}
use Rattle.std.proofs.lemmas.List.Sums.{fold-append}
use Rattle.socket_station.specs.declared.answers.Addr.{Addr}
use Rattle.socket_station.specs.declared.answers.Dial.{Dial}
use Rattle.socket_station.specs.declared.answers.Dial.TheVariants as D
use Rattle.socket_station.specs.declared.answers.Did.{Did}
use Rattle.socket_station.specs.declared.answers.Ready.{Ready}
use Rattle.machine_host.specs.declared.faults.HostFault.{HostFault}
use Rattle.machine_host.specs.Asks as A
use Rattle.machine_host.specs.Asks.{Ask}
use Rattle.station_mio.specs.declared.backlog.Backlog.{Backlog}
use Rattle.station_mio.specs.declared.backlog.Backlog.TheVariants as B
use Rattle.station_mio.specs.Rows.{Stand, Due, Dialled, Up, Lost, closings_at, closings_of}
use Rattle.station_mio.specs.Asking.{Connects, Enrolls, ListensAt, Selects}
use Rattle.station_mio.specs.Dialling.{GoesDialled, GoesDue, GoesOn, GoesOnAll}
use Rattle.station_mio.specs.Accepting.{Comes, IsRefused}
use Rattle.station_mio.specs.Nets.{Net, AcceptsAll, AcceptsOne, AcceptsWaiting, Come, Dials, DialsAt, DialsBy, DialsDue, GoesOnIn, Lists, Listens, ListensBy, Polls, StopsAt, Waits}
use Rattle.station_mio.specs.Telling.{read_at, read_in, wrote_at, wrote_in}
use Rattle.host_log.specs.Telling.{File, file_after, file_in, no_file}

-- a call that moves no bytes and touches no file
abbrev pub is_quiet : Ask → Bool
is_quiet (A.Read n r) = false
is_quiet (A.Wrote n b r) = false
is_quiet (A.Created p m r) = false
is_quiet (A.Appended b r) = false
is_quiet (A.FileSynced r) = false
is_quiet (A.FolderSynced r) = false
is_quiet _ = true

abbrev pub AreQuiet : List Ask → Type 0
AreQuiet [] = Unit {0}
AreQuiet (ask ∷ asks) = (is_quiet ask ≡ true) × AreQuiet asks

pub record Quiet (before after : List Ask) : Type 0 where
  pub more : List Ask
  pub asked : after ≡ before ++ more
  pub quiet : AreQuiet more

both_quiet : (a b : List Ask) → AreQuiet a → AreQuiet b → AreQuiet (a ++ b)
both_quiet [] b x y = y
both_quiet (ask ∷ a) b x y = (x.0, both_quiet a b x.1 y)

pub quiet_none : (before after : List Ask) → after ≡ before → Quiet before after
quiet_none before after e = record { more = []; asked = e ∙ sym (append-nil before); quiet = tt }

pub quiet_one : (before after : List Ask) (ask : Ask) → is_quiet ask ≡ true → after ≡ before ++ ask ∷ [] → Quiet before after
quiet_one before after ask q e = record { more = ask ∷ []; asked = e; quiet = (q, tt) }

pub quiet_two : (before after : List Ask) (a b : Ask) → is_quiet a ≡ true → is_quiet b ≡ true → after ≡ before ++ a ∷ b ∷ [] → Quiet before after
quiet_two before after a b p q e = record { more = a ∷ b ∷ []; asked = e; quiet = (p, (q, tt)) }

pub quiet_then : (before middle after : List Ask) → Quiet before middle → Quiet middle after → Quiet before after
quiet_then before middle after a b = record {
  more = a.more ++ b.more;
  asked = b.asked ∙ ap (λ (x : List Ask). x ++ b.more) a.asked ∙ append_assoc before a.more b.more;
  quiet = both_quiet a.more b.more a.quiet b.quiet;
}

-- such calls change nothing
no_read : (s : ℕ) (ask : Ask) → is_quiet ask ≡ true → read_at s ask ≡ []
no_read s (A.Read n r) q = absurd (cc)
no_read s (A.Clock r) q = refl
no_read s (A.Selected r) q = refl
no_read s (A.Listened a r) q = refl
no_read s (A.ListenerWatched r) q = refl
no_read s (A.Accepted n r) q = refl
no_read s (A.Connected n a r) q = refl
no_read s (A.Watched n r) q = refl
no_read s (A.Waited n r) q = refl
no_read s (A.Wrote n b r) q = absurd (cc)
no_read s (A.WritesEnded n r) q = refl
no_read s (A.Closed n) q = refl
no_read s (A.Created p m r) q = absurd (cc)
no_read s (A.FolderOpened p r) q = refl
no_read s (A.Appended b r) q = absurd (cc)
no_read s (A.FileSynced r) q = absurd (cc)
no_read s (A.FolderSynced r) q = absurd (cc)
no_read s (A.Bound a r) q = refl
no_read s (A.MailboxWatched r) q = refl
no_read s (A.Received r) q = refl
no_read s (A.Sent a b r) q = refl

no_write : (s : ℕ) (ask : Ask) → is_quiet ask ≡ true → wrote_at s ask ≡ []
no_write s (A.Read n r) q = absurd (cc)
no_write s (A.Clock r) q = refl
no_write s (A.Selected r) q = refl
no_write s (A.Listened a r) q = refl
no_write s (A.ListenerWatched r) q = refl
no_write s (A.Accepted n r) q = refl
no_write s (A.Connected n a r) q = refl
no_write s (A.Watched n r) q = refl
no_write s (A.Waited n r) q = refl
no_write s (A.Wrote n b r) q = absurd (cc)
no_write s (A.WritesEnded n r) q = refl
no_write s (A.Closed n) q = refl
no_write s (A.Created p m r) q = absurd (cc)
no_write s (A.FolderOpened p r) q = refl
no_write s (A.Appended b r) q = absurd (cc)
no_write s (A.FileSynced r) q = absurd (cc)
no_write s (A.FolderSynced r) q = absurd (cc)
no_write s (A.Bound a r) q = refl
no_write s (A.MailboxWatched r) q = refl
no_write s (A.Received r) q = refl
no_write s (A.Sent a b r) q = refl

no_change : (f : File) (ask : Ask) → is_quiet ask ≡ true → file_after f ask ≡ f
no_change f (A.Read n r) q = absurd (cc)
no_change f (A.Clock r) q = refl
no_change f (A.Selected r) q = refl
no_change f (A.Listened a r) q = refl
no_change f (A.ListenerWatched r) q = refl
no_change f (A.Accepted n r) q = refl
no_change f (A.Connected n a r) q = refl
no_change f (A.Watched n r) q = refl
no_change f (A.Waited n r) q = refl
no_change f (A.Wrote n b r) q = absurd (cc)
no_change f (A.WritesEnded n r) q = refl
no_change f (A.Closed n) q = refl
no_change f (A.Created p m r) q = absurd (cc)
no_change f (A.FolderOpened p r) q = refl
no_change f (A.Appended b r) q = absurd (cc)
no_change f (A.FileSynced r) q = absurd (cc)
no_change f (A.FolderSynced r) q = absurd (cc)
no_change f (A.Bound a r) q = refl
no_change f (A.MailboxWatched r) q = refl
no_change f (A.Received r) q = refl
no_change f (A.Sent a b r) q = refl

quiet_reads : (s : ℕ) (more : List Ask) → AreQuiet more → read_in s more ≡ []
quiet_reads s [] q = refl
quiet_reads s (ask ∷ more) q = ap (λ (x : List ℕ). x ++ read_in s more) (no_read s ask q.0) ∙ quiet_reads s more q.1

quiet_writes : (s : ℕ) (more : List Ask) → AreQuiet more → wrote_in s more ≡ []
quiet_writes s [] q = refl
quiet_writes s (ask ∷ more) q = ap (λ (x : List ℕ). x ++ wrote_in s more) (no_write s ask q.0) ∙ quiet_writes s more q.1

quiet_file : (f : File) (more : List Ask) → AreQuiet more → fold file_after f more ≡ f
quiet_file f [] q = refl
quiet_file f (ask ∷ more) q = ap (λ (x : File). fold file_after x more) (no_change f ask q.0) ∙ quiet_file f more q.1

pub same_reads : (s : ℕ) (before after : List Ask) → Quiet before after → read_in s after ≡ read_in s before
same_reads s before after q =
    ap (λ (x : List Ask). read_in s x) q.asked ∙ flat_map-append (read_at s) before q.more ∙
    ap (λ (x : List ℕ). read_in s before ++ x) (quiet_reads s q.more q.quiet) ∙ append-nil (read_in s before)

pub same_writes : (s : ℕ) (before after : List Ask) → Quiet before after → wrote_in s after ≡ wrote_in s before
same_writes s before after q =
    ap (λ (x : List Ask). wrote_in s x) q.asked ∙ flat_map-append (wrote_at s) before q.more ∙
    ap (λ (x : List ℕ). wrote_in s before ++ x) (quiet_writes s q.more q.quiet) ∙ append-nil (wrote_in s before)

pub same_file : (before after : List Ask) → Quiet before after → file_in after ≡ file_in before
same_file before after q =
    ap (λ (x : List Ask). file_in x) q.asked ∙ fold-append file_after no_file before q.more ∙ quiet_file (file_in before) q.more q.quiet

pub quiet_closing : (s : Stand) (before : List Ask) → Quiet before (before ++ closings_of s)
quiet_closing (Due n addr time) before = quiet_none before (before ++ []) (append-nil before)
quiet_closing (Dialled n time) before = quiet_one before (before ++ A.Closed n ∷ []) (A.Closed n) refl refl
quiet_closing (Up n) before = quiet_one before (before ++ A.Closed n ∷ []) (A.Closed n) refl refl
quiet_closing (Lost n) before = quiet_none before (before ++ []) (append-nil before)

pub quiet_closing_at : (o : Option Stand) (before : List Ask) → Quiet before (before ++ closings_at o)
quiet_closing_at None before = quiet_none before (before ++ []) (append-nil before)
quiet_closing_at (Some s) before = quiet_closing s before

quiet_selects : (had has : Bool) (before after : List Ask) → Selects had has before after → Quiet before after
quiet_selects true has before after w = quiet_none before after w.0
quiet_selects false true before after w = quiet_one before after (A.Selected None) refl w
quiet_selects false false before after w = quiet_one before after (A.Selected (Some w.0)) refl w.1

quiet_enrolls : (n : ℕ) (b : Bool) (before after : List Ask) → Enrolls n b before after → Quiet before after
quiet_enrolls n true before after w = quiet_one before after (A.Watched n None) refl w
quiet_enrolls n false before after w = quiet_two before after (A.Watched n (Some w.0)) (A.Closed n) refl refl w.1

quiet_connects : (n : ℕ) (addr : Addr) (b : Bool) (before after : List Ask) → Connects n addr b before after → Quiet before after
quiet_connects n addr true before after w =
    quiet_then before (before ++ A.Connected n addr None ∷ []) after (quiet_one before (before ++ A.Connected n addr None ∷ []) (A.Connected n addr None) refl refl) (quiet_enrolls n true _ after w)
quiet_connects n addr false before after (inl w) = quiet_one before after (A.Connected n addr (Some w.0)) refl w.1
quiet_connects n addr false before after (inr w) =
    quiet_then before (before ++ A.Connected n addr None ∷ []) after (quiet_one before (before ++ A.Connected n addr None ∷ []) (A.Connected n addr None) refl refl) (quiet_enrolls n false _ after w)

quiet_listens_at : (addr : Addr) (b : Bool) (before after : List Ask) → ListensAt addr b before after → Quiet before after
quiet_listens_at addr true before after w = quiet_two before after (A.Listened addr None) (A.ListenerWatched None) refl refl w
quiet_listens_at addr false before after (inl w) = quiet_one before after (A.Listened addr (Some w.0)) refl w.1
quiet_listens_at addr false before after (inr w) = quiet_two before after (A.Listened addr None) (A.ListenerWatched (Some w.0)) refl refl w.1

quiet_listens_by : (selects : Bool) (addr : Addr) (done : Result (Unit {0}) HostFault) (before after : List Ask) → ListensBy selects addr done before after → Quiet before after
quiet_listens_by true addr done before after w = quiet_listens_at addr _ before after w
quiet_listens_by false addr done before after w = quiet_none before after w.0

pub quiet_listens : (addr : Addr) (done : Result (Unit {0}) HostFault) (a b : Net) → Listens addr done a b → Quiet a.asks b.asks
quiet_listens addr done a b w = quiet_then a.asks w.middle b.asks (quiet_selects a.selects b.selects a.asks w.middle w.selects) (quiet_listens_by b.selects addr done w.middle b.asks w.asked)

quiet_due : (d : Bool) (now n : ℕ) (addr : Addr) (time : ℕ) (t : Stand) (before after : List Ask) → GoesDue d now n addr time t before after → Quiet before after
quiet_due true now n addr time t before after (inl w) = quiet_connects n addr true before after w.1
quiet_due true now n addr time t before after (inr w) = quiet_connects n addr false before after w.1
quiet_due false now n addr time t before after w = quiet_none before after w.1

quiet_dialled : (d : Bool) (n time : ℕ) (t : Stand) (before after : List Ask) → GoesDialled d n time t before after → Quiet before after
quiet_dialled true n time t before after w = quiet_one before after (A.Closed n) refl w.1
quiet_dialled false n time t before after w = quiet_none before after w.1

quiet_goes_on : (now : ℕ) (s t : Stand) (before after : List Ask) → GoesOn now s t before after → Quiet before after
quiet_goes_on now (Due n addr time) t before after w = quiet_due _ now n addr time t before after w
quiet_goes_on now (Dialled n time) t before after w = quiet_dialled _ n time t before after w
quiet_goes_on now (Up n) t before after w = quiet_none before after w.1
quiet_goes_on now (Lost n) t before after w = quiet_none before after w.1

quiet_goes_all : (now : ℕ) (ss ts : List Stand) (before after : List Ask) → GoesOnAll now ss ts before after → Quiet before after
quiet_goes_all now [] [] before after w = quiet_none before after w
quiet_goes_all now [] (t ∷ ts) before after w = absurd w
quiet_goes_all now (s ∷ ss) [] before after w = absurd w
quiet_goes_all now (s ∷ ss) (t ∷ ts) before after w = quiet_then before w.0 after (quiet_goes_on now s t before w.0 w.1) (quiet_goes_all now ss ts w.0 after w.2)

quiet_goes_in : (a b : Net) → GoesOnIn a b → Quiet a.asks b.asks
quiet_goes_in a b w = quiet_then a.asks w.ticked b.asks (quiet_one a.asks w.ticked (A.Clock w.ticks.answer) refl w.ticks.asked) (quiet_goes_all w.now a.stands b.stands w.ticked b.asks w.goes)

quiet_comes : (n : ℕ) (before after : List Ask) → Comes n before after → Quiet before after
quiet_comes n before after w =
    quiet_then before (before ++ A.Accepted n None ∷ []) after (quiet_one before (before ++ A.Accepted n None ∷ []) (A.Accepted n None) refl refl) (quiet_enrolls n true _ after w)

quiet_refused : (n : ℕ) (before after : List Ask) → IsRefused n before after → Quiet before after
quiet_refused n before after (inl w) = quiet_one before after (A.Accepted n (Some w.0)) refl w.2
quiet_refused n before after (inr w) =
    quiet_then before (before ++ A.Accepted n None ∷ []) after (quiet_one before (before ++ A.Accepted n None ∷ []) (A.Accepted n None) refl refl) (quiet_enrolls n false _ after w)

same_asks : (a b : List Ask) → b ≡ a → Quiet a b
same_asks a b e = quiet_none a b e

quiet_accepts_one : (o : Option ℕ) (a b : Net) → AcceptsOne o a b → Quiet a.asks b.asks
quiet_accepts_one (Some s) a b w = quiet_comes s a.asks b.asks w.3
quiet_accepts_one None a b (inl w) = same_asks a.asks b.asks (ap (λ (n : Net). n.asks) w.1)
quiet_accepts_one None a b (inr (inl w)) = same_asks a.asks b.asks (ap (λ (n : Net). n.asks) w.1)
quiet_accepts_one None a b (inr (inr (inl w))) = quiet_one a.asks b.asks (A.Accepted a.next (Some w.0.0)) refl w.0.2
quiet_accepts_one None a b (inr (inr (inr w))) = quiet_refused a.next a.asks b.asks w.0

quiet_come : (news : List ℕ) (a b : Net) → Come news a b → Quiet a.asks b.asks
quiet_come [] a b w = same_asks a.asks b.asks (ap (λ (n : Net). n.asks) w)
quiet_come (s ∷ news) a b w = quiet_then a.asks w.0.asks b.asks (quiet_accepts_one (Some s) a w.0 w.1) (quiet_come news w.0 b w.2)

quiet_stops : (list : List Ready) (a b : Net) → StopsAt list a b → Quiet a.asks b.asks
quiet_stops list a b (inl (full, x)) = same_asks a.asks b.asks (ap (λ (n : Net). n.asks) x)
quiet_stops list a b (inr x) = quiet_accepts_one None a b x

quiet_waiting : (list out : List Ready) (a b : Net) → AcceptsWaiting list out a b → Quiet a.asks b.asks
quiet_waiting list out a b w = quiet_then a.asks w.middle.asks b.asks (quiet_come w.news a w.middle w.come) (quiet_stops out w.middle b w.stops)

quiet_accepts : (backlog : Backlog) (list out : List Ready) (a b : Net) → AcceptsAll backlog list out a b → Quiet a.asks b.asks
quiet_accepts B.Empty list out a b w = same_asks a.asks b.asks (ap (λ (n : Net). n.asks) w.1)
quiet_accepts B.Waiting list out a b w = quiet_waiting list out a b w
quiet_accepts B.Refused list out a b w = quiet_waiting list out a b w

quiet_waits : (r : Result (List ℕ) HostFault) (a b : Net) → Waits r a b → Quiet a.asks b.asks
quiet_waits r a b w =
    quiet_then a.asks w.ticked b.asks
    (quiet_then a.asks w.picked w.ticked (quiet_selects a.selects true a.asks w.picked w.selects) (quiet_one w.picked w.ticked (A.Clock w.ticks.answer) refl w.ticks.asked))
    (quiet_one w.ticked b.asks (A.Waited _ r) refl (ap (λ (n : Net). n.asks) w.same))

quiet_lists : (tokens : List ℕ) (list : List Ready) (a b : Net) → Lists tokens list a b → Quiet a.asks b.asks
quiet_lists tokens list a b w =
    quiet_then a.asks w.gone.asks b.asks
    (quiet_then a.asks w.seen.asks w.gone.asks (same_asks a.asks w.seen.asks (ap (λ (n : Net). n.asks) w.same)) (quiet_goes_in w.seen w.gone w.goes))
    (quiet_accepts w.gone.backlog _ list w.gone b w.accepts)

pub quiet_polls : (did : Did) (list : List Ready) (a b : Net) → Polls did list a b → Quiet a.asks b.asks
quiet_polls Did.Done list a b w = quiet_then a.asks w.waited.asks b.asks (quiet_waits (Ok w.tokens) a w.waited w.waits) (quiet_lists w.tokens list w.waited b w.lists)
quiet_polls Did.Failed list a b (_, inl w) = quiet_selects a.selects false a.asks b.asks w.selects
quiet_polls Did.Failed list a b (_, inr w) = quiet_waits (Err w.0) a b w.1

quiet_dials_at : (now : ℕ) (addr : Addr) (dial : Dial) (a b : Net) → DialsAt now addr dial a b → Quiet a.asks b.asks
quiet_dials_at now addr (D.Socket s) a b w = quiet_connects s addr true a.asks b.asks w.1
quiet_dials_at now addr D.Failed a b w = quiet_connects a.next addr false a.asks b.asks w.0

quiet_dials_by : (selects : Bool) (now : ℕ) (addr : Addr) (dial : Dial) (a b : Net) → DialsBy selects now addr dial a b → Quiet a.asks b.asks
quiet_dials_by true now addr dial a b w = quiet_dials_at now addr dial a b w
quiet_dials_by false now addr dial a b w = same_asks a.asks b.asks (ap (λ (n : Net). n.asks) w.1)

quiet_dials_due : (later : Bool) (now due : ℕ) (addr : Addr) (dial : Dial) (a b : Net) → DialsDue later now due addr dial a b → Quiet a.asks b.asks
quiet_dials_due true now due addr dial a b w = same_asks a.asks b.asks (ap (λ (n : Net). n.asks) w.1)
quiet_dials_due false now due addr dial a b w =
    quiet_then a.asks w.0.asks b.asks (quiet_selects a.selects w.0.selects a.asks w.0.asks w.1) (quiet_dials_by w.0.selects now addr dial w.0 b w.3)

pub quiet_dials : (room : Bool) (player : ℕ) (addr : Addr) (dial : Dial) (a b : Net) → Dials room player addr dial a b → Quiet a.asks b.asks
quiet_dials false player addr dial a b w = same_asks a.asks b.asks (ap (λ (n : Net). n.asks) w.1)
quiet_dials true player addr dial a b w =
    quiet_then a.asks w.ticked b.asks (quiet_one a.asks w.ticked (A.Clock w.ticks.answer) refl w.ticks.asked) (quiet_dials_due _ w.now w.due addr dial _ b w.dials)
