-- Told: what a post tells, one more call after the other.
use Rattle.std.proofs.Common.{◌≡◌, inl, inr, ℕ, ◌==◌, Bool, true, false, List, [], ◌∷◌, ◌++◌, Some, None, length, refl, sym, ap, ◌∙◌, subst}
use Rattle.std.specs.Prelude.{Result, Ok, Err, if◌then◌else◌}
use Rattle.std.specs.List.{fold}
use Rattle.std.proofs.lemmas.List.{append-nil}
use Rattle.std.proofs.lemmas.Grind.{flat_map-append}
use Rattle.std.proofs.lemmas.List.Sums.{fold-append}
use Rattle.socket_station.specs.declared.answers.Addr.{Addr}
use Rattle.socket_station.specs.declared.answers.Did.{Did}
use Rattle.socket_station.specs.declared.answers.Did.TheVariants as D
use Rattle.socket_station.specs.Moved.{Log}
use Rattle.datagram_post.specs.declared.answers.Received.{Received}
use Rattle.datagram_post.specs.declared.answers.Received.TheVariants as R
use Rattle.datagram_post.specs.declared.answers.Sent.{Sent}
use Rattle.datagram_post.specs.declared.answers.Sent.TheVariants as S
use Rattle.datagram_post.specs.Items.{Item, bind_item, did_by, keep_item, log_item, poll_item, receive_item, send_item, sync_item}
use Rattle.datagram_post.specs.Moved.{Mail, gave_at, kept_at, taken_in, took_at}
use Rattle.datagram_post.proofs.Histories.{given-more, kept-more}
use Rattle.machine_host.specs.declared.faults.HostFault.{HostFault}
use Rattle.machine_host.specs.Asks as A
use Rattle.machine_host.specs.Asks.{Ask, bytes_of}
use Rattle.host_log.specs.Logs.{LogStand, kept_on, logged_on, no_log, synced_on}
use Rattle.host_log.specs.Telling.{File, TellsLog, file_after, file_in, log_kept, log_synced, no_file}
use Rattle.host_log.proofs.Told.{tells_log_begun, tells_log_kept, tells_log_none, tells_log_quiet, tells_log_synced}
use Rattle.host_log.proofs.Unseen.{SeesNoLog, unseen_begun, unseen_kept, unseen_synced}
use Rattle.post_mio.specs.Mails.{Binds, BindsTo, MailState, PollsTo, ReceivesTo, SendsTo, received_of, sent_of, would_block}
use Rattle.post_mio.specs.Posts.{KeepsIn, Logs, SyncsIn}
use Rattle.post_mio.specs.Telling.{Tells, log_after, log_in, received_at, received_in, sent_at, sent_in}

log_more : (items : List Item) (item : Item) → log_in (items ++ item ∷ []) ≡ log_after (log_in items) item
log_more items item = fold-append log_after (record { kept = []; synced = [] }) items (item ∷ [])

taken_more : (items : List Item) (item : Item) → taken_in (items ++ item ∷ []) ≡ taken_in items ++ took_at item
taken_more items item = flat_map-append took_at items (item ∷ []) ∙ ap (λ (x : List (List ℕ)). taken_in items ++ x) (append-nil (took_at item))

-- the bytes that an item keeps stand at the log's end
log_keeps : (l : Log) (item : Item) → (log_after l item).kept ≡ l.kept ++ kept_at item
log_keeps l item = by-item item
  where
    by-item : (i : Item) → (log_after l i).kept ≡ l.kept ++ kept_at i
    by-item (Rattle.datagram_post.specs.Items.Kept bytes) = refl
    by-item _ = sym (append-nil l.kept)

-- before the first call
pub tells_none : Tells no_log [] []
tells_none = record { taken = refl; given = refl; kept = refl; log = tells_log_none }

-- an item and calls that move the same datagrams, and come to this log
pub tells_moved : (stand stand' : LogStand) (asks asks' : List Ask) (items : List Item) (item : Item) →
    received_in asks' ≡ received_in asks ++ took_at item → sent_in asks' ≡ sent_in asks ++ gave_at item →
    TellsLog stand' asks' (log_after (log_in items) item) → Tells stand asks items → Tells stand' asks' (items ++ item ∷ [])
tells_moved stand stand' asks asks' items item takes gives log t = record {
  taken = taken_more items item ∙ ap (λ (x : List (List ℕ)). x ++ took_at item) t.taken ∙ sym takes;
  given = given-more items item ∙ ap (λ (x : List Mail). x ++ gave_at item) t.given ∙ sym gives;
  kept = kept-more items item ∙ ap (λ (x : List ℕ). x ++ kept_at item) t.kept ∙ sym (log_keeps (log_in items) item) ∙ ap (λ (l : Log). l.kept) (sym (log_more items item));
  log = subst (λ (l : Log). TellsLog stand' asks' l) (sym (log_more items item)) log;
}

-- an item that moves no datagram
pub record MovesNone (item : Item) : Type 0 where
  pub took : took_at item ≡ []
  pub gave : gave_at item ≡ []

tells_logged : (stand stand' : LogStand) (asks asks' : List Ask) (items : List Item) (item : Item) → MovesNone item →
    received_in asks' ≡ received_in asks → sent_in asks' ≡ sent_in asks →
    TellsLog stand' asks' (log_after (log_in items) item) → Tells stand asks items → Tells stand' asks' (items ++ item ∷ [])
tells_logged stand stand' asks asks' items item none takes gives log t =
    tells_moved stand stand' asks asks' items item
    (takes ∙ sym (append-nil (received_in asks)) ∙ ap (λ (x : List (List ℕ)). received_in asks ++ x) (sym none.took))
    (gives ∙ sym (append-nil (sent_in asks)) ∙ ap (λ (x : List Mail). sent_in asks ++ x) (sym none.gave)) log t

-- such an item, which leaves the log too, and calls that move nothing and leave the file
pub record IsStill (item : Item) : Type 0 where
  pub none : MovesNone item
  pub log : (l : Log) → log_after l item ≡ l

pub record AreQuiet (more : List Ask) : Type 0 where
  pub received : received_in more ≡ []
  pub sent : sent_in more ≡ []
  pub file : (f : File) → fold file_after f more ≡ f

received_on : (asks asks' more : List Ask) → asks' ≡ asks ++ more → received_in asks' ≡ received_in asks ++ received_in more
received_on asks asks' more e = ap (λ (x : List Ask). received_in x) e ∙ flat_map-append received_at asks more

sent_on : (asks asks' more : List Ask) → asks' ≡ asks ++ more → sent_in asks' ≡ sent_in asks ++ sent_in more
sent_on asks asks' more e = ap (λ (x : List Ask). sent_in x) e ∙ flat_map-append sent_at asks more

file_on : (asks asks' more : List Ask) → asks' ≡ asks ++ more → ((f : File) → fold file_after f more ≡ f) → file_in asks' ≡ file_in asks
file_on asks asks' more e same = ap (λ (x : List Ask). file_in x) e ∙ fold-append file_after no_file asks more ∙ same (file_in asks)

pub tells_still : (stand : LogStand) (asks asks' more : List Ask) (items : List Item) (item : Item) → asks' ≡ asks ++ more → AreQuiet more → IsStill item →
    Tells stand asks items → Tells stand asks' (items ++ item ∷ [])
tells_still stand asks asks' more items item e quiet still t =
    tells_logged stand stand asks asks' items item still.none
    (received_on asks asks' more e ∙ ap (λ (x : List (List ℕ)). received_in asks ++ x) quiet.received ∙ append-nil (received_in asks))
    (sent_on asks asks' more e ∙ ap (λ (x : List Mail). sent_in asks ++ x) quiet.sent ∙ append-nil (sent_in asks))
    (tells_log_quiet stand asks asks' (log_after (log_in items) item) (file_on asks asks' more e quiet.file) (subst (λ (l : Log). TellsLog stand asks l) (sym (still.log (log_in items))) t.log)) t

-- no call
pub tells_same : (stand : LogStand) (asks asks' : List Ask) (items : List Item) (item : Item) → asks' ≡ asks → IsStill item → Tells stand asks items → Tells stand asks' (items ++ item ∷ [])
tells_same stand asks asks' items item e still t =
    tells_still stand asks asks' [] items item (e ∙ sym (append-nil asks)) (record { received = refl; sent = refl; file = λ f. refl }) still t

still_bind : (did : Did) (addr : Addr) → IsStill (bind_item did addr)
still_bind D.Done addr = record { none = record { took = refl; gave = refl }; log = λ l. refl }
still_bind D.Failed addr = record { none = record { took = refl; gave = refl }; log = λ l. refl }

still_poll : (did : Did) → IsStill (poll_item did)
still_poll D.Done = record { none = record { took = refl; gave = refl }; log = λ l. refl }
still_poll D.Failed = record { none = record { took = refl; gave = refl }; log = λ l. refl }

tells_binds : (stand : LogStand) (addr : Addr) (is_done : Bool) (asks asks' : List Ask) (items : List Item) (item : Item) → Binds addr is_done asks asks' → IsStill item →
    Tells stand asks items → Tells stand asks' (items ++ item ∷ [])
tells_binds stand addr true asks asks' items item e still t =
    tells_still stand asks asks' (A.Selected None ∷ A.Selected None ∷ A.Bound addr None ∷ A.MailboxWatched None ∷ []) items item e (record { received = refl; sent = refl; file = λ f. refl }) still t
tells_binds stand addr false asks asks' items item (fault, inl e) still t =
    tells_still stand asks asks' (A.Selected (Some fault) ∷ []) items item e (record { received = refl; sent = refl; file = λ f. refl }) still t
tells_binds stand addr false asks asks' items item (fault, inr (inl e)) still t =
    tells_still stand asks asks' (A.Selected None ∷ A.Selected (Some fault) ∷ []) items item e (record { received = refl; sent = refl; file = λ f. refl }) still t
tells_binds stand addr false asks asks' items item (fault, inr (inr (inl e))) still t =
    tells_still stand asks asks' (A.Selected None ∷ A.Selected None ∷ A.Bound addr (Some fault) ∷ []) items item e (record { received = refl; sent = refl; file = λ f. refl }) still t
tells_binds stand addr false asks asks' items item (fault, inr (inr (inr e))) still t =
    tells_still stand asks asks' (A.Selected None ∷ A.Selected None ∷ A.Bound addr None ∷ A.MailboxWatched (Some fault) ∷ []) items item e (record { received = refl; sent = refl; file = λ f. refl }) still t

pub tells_bound : (was_bound : Bool) (stand : LogStand) (addr : Addr) (is_done : Bool) (did : Did) (a b : MailState) (items : List Item) → BindsTo was_bound addr is_done a b →
    Tells stand a.asks items → Tells stand b.asks (items ++ bind_item did addr ∷ [])
tells_bound true stand addr is_done did a b items w t = tells_same stand a.asks b.asks items (bind_item did addr) (ap (λ (x : MailState). x.asks) w.1) (still_bind did addr) t
tells_bound false stand addr is_done did a b items w t = tells_binds stand addr is_done a.asks b.asks items (bind_item did addr) w.0 (still_bind did addr) t

pub tells_polled : (is_bound : Bool) (stand : LogStand) (is_done : Bool) (did : Did) (a b : MailState) (items : List Item) → PollsTo is_bound is_done a b →
    Tells stand a.asks items → Tells stand b.asks (items ++ poll_item did ∷ [])
tells_polled false stand is_done did a b items w t = tells_same stand a.asks b.asks items (poll_item did) (ap (λ (x : MailState). x.asks) w.1) (still_poll did) t
tells_polled true stand is_done did a b items w t =
    tells_still stand a.asks b.asks _ items (poll_item did) w.asked.2 (record { received = refl; sent = refl; file = λ f. refl }) (still_poll did) t

-- a receive: its item takes the datagram that the machine gave
took_fault : (b : Bool) (buf : List ℕ) → took_at (receive_item (if b then R.NotYet else R.Failed) buf) ≡ []
took_fault true buf = refl
took_fault false buf = refl

took_same : (answer : Result ℕ HostFault) (buf : List ℕ) → took_at (receive_item (received_of answer) buf) ≡ received_at (A.Received (bytes_of answer buf))
took_same (Ok count) buf = refl
took_same (Err fault) buf = took_fault (would_block fault) buf

receive_gives : (received : Received) (buf : List ℕ) → gave_at (receive_item received buf) ≡ []
receive_gives (R.Took count) buf = refl
receive_gives R.NotYet buf = refl
receive_gives R.Failed buf = refl

receive_keeps : (l : Log) (received : Received) (buf : List ℕ) → log_after l (receive_item received buf) ≡ l
receive_keeps l (R.Took count) buf = refl
receive_keeps l R.NotYet buf = refl
receive_keeps l R.Failed buf = refl

pub tells_received : (is_bound : Bool) (stand : LogStand) (received : Received) (buf : List ℕ) (a b : MailState) (items : List Item) → ReceivesTo is_bound received buf a b →
    Tells stand a.asks items → Tells stand b.asks (items ++ receive_item received buf ∷ [])
tells_received false stand received buf a b items w t =
    subst (λ (r : Received). Tells stand b.asks (items ++ receive_item r buf ∷ [])) (sym w.0)
    (tells_same stand a.asks b.asks items (receive_item R.Failed buf) (ap (λ (x : MailState). x.asks) w.1) (record { none = record { took = refl; gave = refl }; log = λ l. refl }) t)
tells_received true stand received buf a b items w t =
    let answer = w.asked.0 in
    let ask = A.Received (bytes_of answer buf) in
    let item = receive_item received buf in
    let e : b.asks ≡ a.asks ++ ask ∷ [] = w.asked.1 in
    let took : took_at item ≡ received_at ask = ap (λ (r : Received). took_at (receive_item r buf)) w.asked.2 ∙ took_same answer buf in
    tells_moved stand stand a.asks b.asks items item
    (received_on a.asks b.asks (ask ∷ []) e ∙ ap (λ (x : List (List ℕ)). received_in a.asks ++ x) (append-nil (received_at ask) ∙ sym took))
    (sent_on a.asks b.asks (ask ∷ []) e ∙ ap (λ (x : List Mail). sent_in a.asks ++ x) (sym (receive_gives received buf)))
    (tells_log_quiet stand a.asks b.asks (log_after (log_in items) item) (file_on a.asks b.asks (ask ∷ []) e (λ f. refl))
    (subst (λ (l : Log). TellsLog stand a.asks l) (sym (receive_keeps (log_in items) received buf)) t.log)) t

-- a send: its item gives the datagram that the machine gave whole
gave_fault : (b : Bool) (addr : Addr) (bytes : List ℕ) → gave_at (send_item (if b then S.NotYet else S.Failed) addr bytes) ≡ []
gave_fault true addr bytes = refl
gave_fault false addr bytes = refl

gave_count : (b : Bool) (addr : Addr) (bytes : List ℕ) → gave_at (send_item (if b then S.Gave else S.Failed) addr bytes) ≡ (if b then record { to = addr; bytes = bytes } ∷ [] else [])
gave_count true addr bytes = refl
gave_count false addr bytes = refl

gave_same : (answer : Result ℕ HostFault) (addr : Addr) (bytes : List ℕ) → gave_at (send_item (sent_of answer (length bytes)) addr bytes) ≡ sent_at (A.Sent addr bytes answer)
gave_same (Ok count) addr bytes = gave_count (count == length bytes) addr bytes
gave_same (Err fault) addr bytes = gave_fault (would_block fault) addr bytes

send_takes : (sent : Sent) (addr : Addr) (bytes : List ℕ) → took_at (send_item sent addr bytes) ≡ []
send_takes S.Gave addr bytes = refl
send_takes S.NotYet addr bytes = refl
send_takes S.Failed addr bytes = refl

send_keeps : (l : Log) (sent : Sent) (addr : Addr) (bytes : List ℕ) → log_after l (send_item sent addr bytes) ≡ l
send_keeps l S.Gave addr bytes = refl
send_keeps l S.NotYet addr bytes = refl
send_keeps l S.Failed addr bytes = refl

pub tells_sent : (is_bound : Bool) (stand : LogStand) (addr : Addr) (sent : Sent) (bytes : List ℕ) (a b : MailState) (items : List Item) → SendsTo is_bound addr sent bytes a b →
    Tells stand a.asks items → Tells stand b.asks (items ++ send_item sent addr bytes ∷ [])
tells_sent false stand addr sent bytes a b items w t =
    subst (λ (s : Sent). Tells stand b.asks (items ++ send_item s addr bytes ∷ [])) (sym w.0)
    (tells_same stand a.asks b.asks items (send_item S.Failed addr bytes) (ap (λ (x : MailState). x.asks) w.1) (record { none = record { took = refl; gave = refl }; log = λ l. refl }) t)
tells_sent true stand addr sent bytes a b items w t =
    let answer = w.asked.0 in
    let ask = A.Sent addr bytes answer in
    let item = send_item sent addr bytes in
    let e : b.asks ≡ a.asks ++ ask ∷ [] = w.asked.1 in
    let gave : gave_at item ≡ sent_at ask = ap (λ (s : Sent). gave_at (send_item s addr bytes)) w.asked.2 ∙ gave_same answer addr bytes in
    tells_moved stand stand a.asks b.asks items item
    (received_on a.asks b.asks (ask ∷ []) e ∙ ap (λ (x : List (List ℕ)). received_in a.asks ++ x) (sym (send_takes sent addr bytes)))
    (sent_on a.asks b.asks (ask ∷ []) e ∙ ap (λ (x : List Mail). sent_in a.asks ++ x) (append-nil (sent_at ask) ∙ sym gave))
    (tells_log_quiet stand a.asks b.asks (log_after (log_in items) item) (file_on a.asks b.asks (ask ∷ []) e (λ f. refl))
    (subst (λ (l : Log). TellsLog stand a.asks l) (sym (send_keeps (log_in items) sent addr bytes)) t.log)) t

-- the calls of the log move no datagram
no_receive : SeesNoLog received_at
no_receive = record { opened = λ p r. refl; created = λ p m r. refl; appended = λ b r. refl; synced = λ r. refl; listed = λ r. refl }

no_send : SeesNoLog sent_at
no_send = record { opened = λ p r. refl; created = λ p m r. refl; appended = λ b r. refl; synced = λ r. refl; listed = λ r. refl }

log_none : (did : Did) (name : List ℕ) → MovesNone (log_item did name)
log_none D.Done name = record { took = refl; gave = refl }
log_none D.Failed name = record { took = refl; gave = refl }

log_begins : (did : Did) (name : List ℕ) (l : Log) → log_after l (log_item did name) ≡ l
log_begins D.Done name l = refl
log_begins D.Failed name l = refl

pub tells_logs : (name : List ℕ) (did : Did) (stand stand' : LogStand) (a b : MailState) (items : List Item) → Logs name did stand stand' a b →
    Tells stand a.asks items → Tells stand' b.asks (items ++ log_item did name ∷ [])
tells_logs name did stand stand' a b items w t =
    tells_logged stand stand' a.asks b.asks items (log_item did name) (log_none did name)
    (unseen_begun received_at no_receive name stand.begun w.is_done a.asks b.asks w.asked) (unseen_begun sent_at no_send name stand.begun w.is_done a.asks b.asks w.asked)
    (subst (λ (s : LogStand). TellsLog s b.asks (log_after (log_in items) (log_item did name))) (sym w.stands)
    (subst (λ (l : Log). TellsLog (logged_on w.is_done stand) b.asks l) (sym (log_begins did name (log_in items))) (tells_log_begun name stand w.is_done a.asks b.asks (log_in items) w.asked t.log))) t

keep_none : (did : Did) (bytes : List ℕ) → MovesNone (keep_item did bytes)
keep_none D.Done bytes = record { took = refl; gave = refl }
keep_none D.Failed bytes = record { took = refl; gave = refl }

keep_adds : (is_done : Bool) (bytes : List ℕ) (l : Log) → log_after l (keep_item (did_by is_done) bytes) ≡ log_kept is_done bytes l
keep_adds true bytes l = refl
keep_adds false bytes l = refl

pub tells_keeps : (bytes : List ℕ) (did : Did) (stand stand' : LogStand) (a b : MailState) (items : List Item) → KeepsIn bytes did stand stand' a b →
    Tells stand a.asks items → Tells stand' b.asks (items ++ keep_item did bytes ∷ [])
tells_keeps bytes did stand stand' a b items w t =
    tells_logged stand stand' a.asks b.asks items (keep_item did bytes) (keep_none did bytes)
    (unseen_kept received_at no_receive bytes stand.file w.is_done a.asks b.asks w.asked) (unseen_kept sent_at no_send bytes stand.file w.is_done a.asks b.asks w.asked)
    (subst (λ (s : LogStand). TellsLog s b.asks (log_after (log_in items) (keep_item did bytes))) (sym w.stands)
    (subst (λ (l : Log). TellsLog (kept_on w.is_done stand) b.asks l) (sym (ap (λ (d : Did). log_after (log_in items) (keep_item d bytes)) w.answer ∙ keep_adds w.is_done bytes (log_in items)))
    (tells_log_kept stand bytes w.is_done a.asks b.asks (log_in items) w.asked t.log))) t

sync_none : (did : Did) → MovesNone (sync_item did)
sync_none D.Done = record { took = refl; gave = refl }
sync_none D.Failed = record { took = refl; gave = refl }

sync_stores : (is_done : Bool) (l : Log) → log_after l (sync_item (did_by is_done)) ≡ log_synced is_done l
sync_stores true l = refl
sync_stores false l = refl

pub tells_syncs : (did : Did) (stand stand' : LogStand) (a b : MailState) (items : List Item) → SyncsIn did stand stand' a b →
    Tells stand a.asks items → Tells stand' b.asks (items ++ sync_item did ∷ [])
tells_syncs did stand stand' a b items w t =
    tells_logged stand stand' a.asks b.asks items (sync_item did) (sync_none did)
    (unseen_synced received_at no_receive stand.file w.is_done a.asks b.asks w.asked) (unseen_synced sent_at no_send stand.file w.is_done a.asks b.asks w.asked)
    (subst (λ (s : LogStand). TellsLog s b.asks (log_after (log_in items) (sync_item did))) (sym w.stands)
    (subst (λ (l : Log). TellsLog (synced_on w.is_done stand) b.asks l) (sym (ap (λ (d : Did). log_after (log_in items) (sync_item d)) w.answer ∙ sync_stores w.is_done (log_in items)))
    (tells_log_synced stand w.is_done a.asks b.asks (log_in items) w.asked t.log))) t
