-- Told: what a station tells, one more call after the other.
use Rattle.std.proofs.Common.{◌≡◌, ℕ, ◌==◌, Bool, true, false, List, [], ◌∷◌, ◌++◌, Option, Some, None, take, refl, sym, ap, ◌∙◌, subst, arith}
use Rattle.std.specs.Prelude.{Result, Ok, Err, if◌then◌else◌}
use Rattle.std.proofs.lemmas.Bool.Decides.{nat_tests}
use Rattle.std.proofs.lemmas.List.{append-nil}
use Rattle.std.proofs.lemmas.Grind.{flat_map-append}
use Rattle.std.proofs.lemmas.List.Sums.{fold-append}
use Rattle.socket_station.specs.declared.answers.Addr.{Addr}
use Rattle.socket_station.specs.declared.answers.Dial.{Dial}
use Rattle.socket_station.specs.declared.answers.Dial.TheVariants as D
use Rattle.socket_station.specs.declared.answers.Did.{Did}
use Rattle.socket_station.specs.declared.answers.Ready.{Ready}
use Rattle.socket_station.specs.declared.answers.SocketRead.{SocketRead}
use Rattle.socket_station.specs.declared.answers.SocketRead.TheVariants as R
use Rattle.socket_station.specs.declared.answers.SocketWrite.{SocketWrite}
use Rattle.socket_station.specs.declared.answers.SocketWrite.TheVariants as W
use Rattle.socket_station.specs.Items.{Item, Shut, dial_item, keep_item, listen_item, log_item, poll_item, read_item, sync_item, write_item}
use Rattle.socket_station.specs.Moved.{Log, gave_at, given_in, log_after, log_in, taken_in, took_at}
use Rattle.socket_station.proofs.Histories.{given-more, taken-more}
use Rattle.machine_host.specs.declared.faults.HostFault.{HostFault}
use Rattle.machine_host.specs.Asks as A
use Rattle.machine_host.specs.Asks.{Ask, bytes_of}
use Rattle.station_mio.specs.Rows.{Stand, Due, Dialled, Up, Lost, closings_of, number_of, stand_in}
use Rattle.station_mio.specs.Asking.{Reads, ReadsStand, Writes, WritesStand, is_read_over, is_write_over, read_of, would_block, write_of}
use Rattle.station_mio.specs.Nets.{Net}
use Rattle.station_mio.specs.Stations.{Keeps, LogsTo, SyncsTo, did_by}
use Rattle.station_mio.specs.Telling.{Tells, read_at, read_in, wrote_at, wrote_in}
use Rattle.host_log.specs.Logs.{LogStand, kept_on, logged_on, synced_on}
use Rattle.host_log.specs.Telling.{File, IsFront, IsLog, TellsLog, file_after, file_in, log_kept, log_synced, no_file, stays_of}
use Rattle.host_log.proofs.Told.{tells_log_begun, tells_log_kept, tells_log_synced}
use Rattle.host_log.proofs.Unseen.{SeesNoLog, unseen_begun, unseen_kept, unseen_synced}
use Rattle.station_mio.proofs.Quiet.{Quiet, quiet_closing, quiet_none, same_file, same_reads, same_writes}

log_more : (items : List Item) (item : Item) → log_in (items ++ item ∷ []) ≡ log_after (log_in items) item
log_more items item = fold-append log_after (record { kept = []; synced = [] }) items (item ∷ [])

read_more : (s : ℕ) (asks : List Ask) (ask : Ask) → read_in s (asks ++ ask ∷ []) ≡ read_in s asks ++ read_at s ask
read_more s asks ask = flat_map-append (read_at s) asks (ask ∷ []) ∙ ap (λ (x : List ℕ). read_in s asks ++ x) (append-nil (read_at s ask))

wrote_more : (s : ℕ) (asks : List Ask) (ask : Ask) → wrote_in s (asks ++ ask ∷ []) ≡ wrote_in s asks ++ wrote_at s ask
wrote_more s asks ask = flat_map-append (wrote_at s) asks (ask ∷ []) ∙ ap (λ (x : List ℕ). wrote_in s asks ++ x) (append-nil (wrote_at s ask))

file_more : (asks : List Ask) (ask : Ask) → file_in (asks ++ ask ∷ []) ≡ file_after (file_in asks) ask
file_more asks ask = fold-append file_after no_file asks (ask ∷ [])

-- before the first call
pub tells_none : Tells None false [] []
tells_none = record { taken = λ s. refl; given = λ s. refl; kept = ([], refl); synced = ([], refl); same = (refl, refl) }

-- an item and calls that move the same bytes, and leave the log and the file as they are
tells_moved : (log : Option Bool) (begun : Bool) (asks asks' : List Ask) (items : List Item) (item : Item) →
    ((s : ℕ) → read_in s asks' ≡ read_in s asks ++ took_at s item) → ((s : ℕ) → wrote_in s asks' ≡ wrote_in s asks ++ gave_at s item) →
    file_in asks' ≡ file_in asks → log_after (log_in items) item ≡ log_in items → Tells log begun asks items → Tells log begun asks' (items ++ item ∷ [])
tells_moved log begun asks asks' items item reads writes file still w =
    let same : log_in (items ++ item ∷ []) ≡ log_in items = log_more items item ∙ still in
    record {
      taken = λ s. taken-more s items item ∙ ap (λ (x : List ℕ). x ++ took_at s item) (w.taken s) ∙ sym (reads s);
      given = λ s. given-more s items item ∙ ap (λ (x : List ℕ). x ++ gave_at s item) (w.given s) ∙ sym (writes s);
      kept = subst (λ (l : Log). IsFront l.kept (file_in asks').bytes) (sym same) (subst (λ (f : File). IsFront (log_in items).kept f.bytes) (sym file) w.kept);
      synced = subst (λ (l : Log). IsFront l.synced (stays_of (file_in asks'))) (sym same) (subst (λ (f : File). IsFront (log_in items).synced (stays_of f)) (sym file) w.synced);
      same = subst (λ (l : Log). IsLog log begun (file_in asks') l) (sym same) (subst (λ (f : File). IsLog log begun f (log_in items)) (sym file) w.same);
    }

-- an item that moves nothing
pub record IsStill (item : Item) : Type 0 where
  pub took : (s : ℕ) → took_at s item ≡ []
  pub gave : (s : ℕ) → gave_at s item ≡ []
  pub log : (l : Log) → log_after l item ≡ l

pub tells_quiet : (log : Option Bool) (begun : Bool) (asks asks' : List Ask) (items : List Item) (item : Item) → Quiet asks asks' → IsStill item → Tells log begun asks items → Tells log begun asks' (items ++ item ∷ [])
tells_quiet log begun asks asks' items item q still w =
    tells_moved log begun asks asks' items item
    (λ s. same_reads s asks asks' q ∙ sym (append-nil (read_in s asks)) ∙ ap (λ (x : List ℕ). read_in s asks ++ x) (sym (still.took s)))
    (λ s. same_writes s asks asks' q ∙ sym (append-nil (wrote_in s asks)) ∙ ap (λ (x : List ℕ). wrote_in s asks ++ x) (sym (still.gave s)))
    (same_file asks asks' q) (still.log (log_in items)) w

pub still_listen : (did : Did) (addr : Addr) → IsStill (listen_item did addr)
still_listen Did.Done addr = record { took = λ s. refl; gave = λ s. refl; log = λ l. refl }
still_listen Did.Failed addr = record { took = λ s. refl; gave = λ s. refl; log = λ l. refl }

pub still_dial : (dial : Dial) (player : ℕ) (addr : Addr) → IsStill (dial_item dial player addr)
still_dial (D.Socket s) player addr = record { took = λ s. refl; gave = λ s. refl; log = λ l. refl }
still_dial D.Failed player addr = record { took = λ s. refl; gave = λ s. refl; log = λ l. refl }

pub still_poll : (did : Did) (list : List Ready) → IsStill (poll_item did list)
still_poll Did.Done list = record { took = λ s. refl; gave = λ s. refl; log = λ l. refl }
still_poll Did.Failed list = record { took = λ s. refl; gave = λ s. refl; log = λ l. refl }

pub still_shut : (n : ℕ) → IsStill (Shut n)
still_shut n = record { took = λ s. refl; gave = λ s. refl; log = λ l. refl }

-- a socket that is found has the number
found_is : (n : ℕ) (stands : List Stand) (s : Stand) → stand_in n stands ≡ Some s → number_of s ≡ n
found_is n [] s e = absurd (cc)
found_is n (t ∷ stands) s e = by-test (number_of t == n) refl (found_is n stands s)
  where
    by-test : (b : Bool) → (number_of t == n) ≡ b → (stand_in n stands ≡ Some s → number_of s ≡ n) → number_of s ≡ n
    by-test true h rest =
        let k : (if true then Some t else stand_in n stands) ≡ Some s = subst (λ (b : Bool). (if b then Some t else stand_in n stands) ≡ Some s) h e in
        let same : t ≡ s = (let k' : Some t ≡ Some s = k in cc) in
        let is : number_of t ≡ n = grind (arith, nat_tests) in
        ap number_of (sym same) ∙ is
    by-test false h rest = rest (subst (λ (b : Bool). (if b then Some t else stand_in n stands) ≡ Some s) h e)

-- a read: its item takes the bytes that the machine gave
nothing_either : (b : Bool) (none : List ℕ) → (if b then none else none) ≡ none
nothing_either true none = refl
nothing_either false none = refl

took_fault : (s n : ℕ) (b : Bool) (buf : List ℕ) → took_at s (read_item n (if b then R.NotYet else R.Failed) buf) ≡ []
took_fault s n true buf = refl
took_fault s n false buf = refl

took_count : (s n count : ℕ) (buf : List ℕ) (b : Bool) → (count == 0) ≡ b → took_at s (read_item n (if b then R.Ended else R.Took count) buf) ≡ (if n == s then take count buf else [])
took_count s n count buf true e =
    let zero : count ≡ 0 = grind (arith, nat_tests) in
    sym (ap (λ (k : ℕ). if n == s then take k buf else []) zero ∙ nothing_either (n == s) [])
took_count s n count buf false e = refl

took_same : (s n : ℕ) (answer : Result ℕ HostFault) (buf : List ℕ) → took_at s (read_item n (read_of answer) buf) ≡ read_at s (A.Read n (bytes_of answer buf))
took_same s n (Ok count) buf = took_count s n count buf (count == 0) refl
took_same s n (Err fault) buf = took_fault s n (would_block fault) buf

read_gives : (s n : ℕ) (read : SocketRead) (buf : List ℕ) → gave_at s (read_item n read buf) ≡ []
read_gives s n (R.Took count) buf = refl
read_gives s n R.NotYet buf = refl
read_gives s n R.Ended buf = refl
read_gives s n R.Failed buf = refl

read_keeps : (l : Log) (n : ℕ) (read : SocketRead) (buf : List ℕ) → log_after l (read_item n read buf) ≡ l
read_keeps l n (R.Took count) buf = refl
read_keeps l n R.NotYet buf = refl
read_keeps l n R.Ended buf = refl
read_keeps l n R.Failed buf = refl

still_read : (n : ℕ) (read : SocketRead) (buf : List ℕ) → ((s : ℕ) → took_at s (read_item n read buf) ≡ []) → IsStill (read_item n read buf)
still_read n read buf none = record { took = none; gave = λ s. read_gives s n read buf; log = λ l. read_keeps l n read buf }

-- further quiet calls
tells_on : (log : Option Bool) (begun : Bool) (asks asks' : List Ask) (items : List Item) → Quiet asks asks' → Tells log begun asks items → Tells log begun asks' items
tells_on log begun asks asks' items q w = record {
  taken = λ s. w.taken s ∙ sym (same_reads s asks asks' q);
  given = λ s. w.given s ∙ sym (same_writes s asks asks' q);
  kept = subst (λ (f : File). IsFront (log_in items).kept f.bytes) (sym (same_file asks asks' q)) w.kept;
  synced = subst (λ (f : File). IsFront (log_in items).synced (stays_of f)) (sym (same_file asks asks' q)) w.synced;
  same = subst (λ (f : File). IsLog log begun f (log_in items)) (sym (same_file asks asks' q)) w.same;
}

tells_stream : (log : Option Bool) (begun : Bool) (m n : ℕ) (asks asks' : List Ask) (items : List Item) (read : SocketRead) (buf : List ℕ) (answer : Result ℕ HostFault) → m ≡ n →
    asks' ≡ asks ++ A.Read m (bytes_of answer buf) ∷ [] → read ≡ read_of answer → Tells log begun asks items → Tells log begun asks' (items ++ read_item n read buf ∷ [])
tells_stream log begun m n asks asks' items read buf answer same e is w =
    let ask = A.Read m (bytes_of answer buf) in
    let took : (s : ℕ) → took_at s (read_item n read buf) ≡ read_at s ask = λ s.
    ap (λ r. took_at s (read_item n r buf)) is ∙ took_same s n answer buf ∙ ap (λ (k : ℕ). read_at s (A.Read k (bytes_of answer buf))) (sym same) in
    tells_moved log begun asks asks' items (read_item n read buf)
    (λ s. ap (λ (x : List Ask). read_in s x) e ∙ read_more s asks ask ∙ ap (λ (x : List ℕ). read_in s asks ++ x) (sym (took s)))
    (λ s. ap (λ (x : List Ask). wrote_in s x) e ∙ wrote_more s asks ask ∙ ap (λ (x : List ℕ). wrote_in s asks ++ x) (sym (read_gives s n read buf)))
    (ap (λ (x : List Ask). file_in x) e ∙ file_more asks ask) (read_keeps (log_in items) n read buf) w

tells_stand : (log : Option Bool) (begun : Bool) (s : Stand) (n : ℕ) (asks asks' : List Ask) (items : List Item) (read : SocketRead) (buf : List ℕ) → number_of s ≡ n →
    ReadsStand s asks asks' read buf → Tells log begun asks items → Tells log begun asks' (items ++ read_item n read buf ∷ [])
tells_stand log begun (Due m addr time) n asks asks' items read buf same w t =
    subst (λ (r : SocketRead). Tells log begun asks' (items ++ read_item n r buf ∷ [])) (sym w.1)
    (tells_quiet log begun asks asks' items (read_item n R.NotYet buf) (quiet_none asks asks' w.0) (still_read n R.NotYet buf (λ s. refl)) t)
tells_stand log begun (Dialled m time) n asks asks' items read buf same w t = tells_stream log begun m n asks asks' items read buf w.0 same w.1 w.2 t
tells_stand log begun (Up m) n asks asks' items read buf same w t = tells_stream log begun m n asks asks' items read buf w.0 same w.1 w.2 t
tells_stand log begun (Lost m) n asks asks' items read buf same w t =
    subst (λ (r : SocketRead). Tells log begun asks' (items ++ read_item n r buf ∷ [])) (sym w.1)
    (tells_quiet log begun asks asks' items (read_item n R.Failed buf) (quiet_none asks asks' w.0) (still_read n R.Failed buf (λ s. refl)) t)

closed_after : (b : Bool) (s : Stand) (middle after : List Ask) → after ≡ (if b then middle ++ closings_of s else middle) → Quiet middle after
closed_after true s middle after e = subst (λ (x : List Ask). Quiet middle x) (sym e) (quiet_closing s middle)
closed_after false s middle after e = quiet_none middle after e

tells_read_at : (o : Option Stand) (log : Option Bool) (begun : Bool) (n : ℕ) (asks asks' : List Ask) (items : List Item) (read : SocketRead) (buf : List ℕ) →
    ((s : Stand) → o ≡ Some s → number_of s ≡ n) → Reads o asks asks' read buf → Tells log begun asks items → Tells log begun asks' (items ++ read_item n read buf ∷ [])
tells_read_at None log begun n asks asks' items read buf found w t =
    subst (λ (r : SocketRead). Tells log begun asks' (items ++ read_item n r buf ∷ [])) (sym w.1)
    (tells_quiet log begun asks asks' items (read_item n R.Failed buf) (quiet_none asks asks' w.0) (still_read n R.Failed buf (λ s. refl)) t)
tells_read_at (Some s) log begun n asks asks' items read buf found w t =
    tells_on log begun w.0 asks' (items ++ read_item n read buf ∷ []) (closed_after (is_read_over read) s w.0 asks' w.2)
    (tells_stand log begun s n asks w.0 items read buf (found s refl) w.1 t)

pub tells_read : (log : Option Bool) (begun : Bool) (n : ℕ) (stands : List Stand) (asks asks' : List Ask) (items : List Item) (read : SocketRead) (buf : List ℕ) →
    Reads (stand_in n stands) asks asks' read buf → Tells log begun asks items → Tells log begun asks' (items ++ read_item n read buf ∷ [])
tells_read log begun n stands asks asks' items read buf w t = tells_read_at (stand_in n stands) log begun n asks asks' items read buf (λ s e. found_is n stands s e) w t

-- a write: its item gives the bytes that the machine gave
gave_fault : (s n : ℕ) (b : Bool) (bytes : List ℕ) → gave_at s (write_item n (if b then W.NotYet else W.Failed) bytes) ≡ []
gave_fault s n true bytes = refl
gave_fault s n false bytes = refl

gave_count : (s n count : ℕ) (bytes : List ℕ) (b : Bool) → (count == 0) ≡ b → gave_at s (write_item n (if b then W.Failed else W.Gave count) bytes) ≡ (if n == s then take count bytes else [])
gave_count s n count bytes true e =
    let zero : count ≡ 0 = grind (arith, nat_tests) in
    sym (ap (λ (k : ℕ). if n == s then take k bytes else []) zero ∙ nothing_either (n == s) [])
gave_count s n count bytes false e = refl

gave_same : (s n : ℕ) (answer : Result ℕ HostFault) (bytes : List ℕ) → gave_at s (write_item n (write_of answer) bytes) ≡ wrote_at s (A.Wrote n bytes answer)
gave_same s n (Ok count) bytes = gave_count s n count bytes (count == 0) refl
gave_same s n (Err fault) bytes = gave_fault s n (would_block fault) bytes

write_takes : (s n : ℕ) (write : SocketWrite) (bytes : List ℕ) → took_at s (write_item n write bytes) ≡ []
write_takes s n (W.Gave count) bytes = refl
write_takes s n W.NotYet bytes = refl
write_takes s n W.Failed bytes = refl

write_keeps : (l : Log) (n : ℕ) (write : SocketWrite) (bytes : List ℕ) → log_after l (write_item n write bytes) ≡ l
write_keeps l n (W.Gave count) bytes = refl
write_keeps l n W.NotYet bytes = refl
write_keeps l n W.Failed bytes = refl

still_write : (n : ℕ) (write : SocketWrite) (bytes : List ℕ) → ((s : ℕ) → gave_at s (write_item n write bytes) ≡ []) → IsStill (write_item n write bytes)
still_write n write bytes none = record { took = λ s. write_takes s n write bytes; gave = none; log = λ l. write_keeps l n write bytes }

gives_stream : (log : Option Bool) (begun : Bool) (m n : ℕ) (asks asks' : List Ask) (items : List Item) (write : SocketWrite) (bytes : List ℕ) (answer : Result ℕ HostFault) → m ≡ n →
    asks' ≡ asks ++ A.Wrote m bytes answer ∷ [] → write ≡ write_of answer → Tells log begun asks items → Tells log begun asks' (items ++ write_item n write bytes ∷ [])
gives_stream log begun m n asks asks' items write bytes answer same e is w =
    let ask = A.Wrote m bytes answer in
    let gave : (s : ℕ) → gave_at s (write_item n write bytes) ≡ wrote_at s ask = λ s.
    ap (λ r. gave_at s (write_item n r bytes)) is ∙ gave_same s n answer bytes ∙ ap (λ (k : ℕ). wrote_at s (A.Wrote k bytes answer)) (sym same) in
    tells_moved log begun asks asks' items (write_item n write bytes)
    (λ s. ap (λ (x : List Ask). read_in s x) e ∙ read_more s asks ask ∙ ap (λ (x : List ℕ). read_in s asks ++ x) (sym (write_takes s n write bytes)))
    (λ s. ap (λ (x : List Ask). wrote_in s x) e ∙ wrote_more s asks ask ∙ ap (λ (x : List ℕ). wrote_in s asks ++ x) (sym (gave s)))
    (ap (λ (x : List Ask). file_in x) e ∙ file_more asks ask) (write_keeps (log_in items) n write bytes) w

gives_stand : (log : Option Bool) (begun : Bool) (s : Stand) (n : ℕ) (asks asks' : List Ask) (items : List Item) (write : SocketWrite) (bytes : List ℕ) → number_of s ≡ n →
    WritesStand s asks asks' write bytes → Tells log begun asks items → Tells log begun asks' (items ++ write_item n write bytes ∷ [])
gives_stand log begun (Due m addr time) n asks asks' items write bytes same w t =
    subst (λ (r : SocketWrite). Tells log begun asks' (items ++ write_item n r bytes ∷ [])) (sym w.1)
    (tells_quiet log begun asks asks' items (write_item n W.NotYet bytes) (quiet_none asks asks' w.0) (still_write n W.NotYet bytes (λ s. refl)) t)
gives_stand log begun (Dialled m time) n asks asks' items write bytes same w t = gives_stream log begun m n asks asks' items write bytes w.0 same w.1 w.2 t
gives_stand log begun (Up m) n asks asks' items write bytes same w t = gives_stream log begun m n asks asks' items write bytes w.0 same w.1 w.2 t
gives_stand log begun (Lost m) n asks asks' items write bytes same w t =
    subst (λ (r : SocketWrite). Tells log begun asks' (items ++ write_item n r bytes ∷ [])) (sym w.1)
    (tells_quiet log begun asks asks' items (write_item n W.Failed bytes) (quiet_none asks asks' w.0) (still_write n W.Failed bytes (λ s. refl)) t)

tells_write_at : (o : Option Stand) (log : Option Bool) (begun : Bool) (n : ℕ) (asks asks' : List Ask) (items : List Item) (write : SocketWrite) (bytes : List ℕ) →
    ((s : Stand) → o ≡ Some s → number_of s ≡ n) → Writes o asks asks' write bytes → Tells log begun asks items → Tells log begun asks' (items ++ write_item n write bytes ∷ [])
tells_write_at None log begun n asks asks' items write bytes found w t =
    subst (λ (r : SocketWrite). Tells log begun asks' (items ++ write_item n r bytes ∷ [])) (sym w.1)
    (tells_quiet log begun asks asks' items (write_item n W.Failed bytes) (quiet_none asks asks' w.0) (still_write n W.Failed bytes (λ s. refl)) t)
tells_write_at (Some s) log begun n asks asks' items write bytes found w t =
    tells_on log begun w.0 asks' (items ++ write_item n write bytes ∷ []) (closed_after (is_write_over write) s w.0 asks' w.2)
    (gives_stand log begun s n asks w.0 items write bytes (found s refl) w.1 t)

pub tells_write : (log : Option Bool) (begun : Bool) (n : ℕ) (stands : List Stand) (asks asks' : List Ask) (items : List Item) (write : SocketWrite) (bytes : List ℕ) →
    Writes (stand_in n stands) asks asks' write bytes → Tells log begun asks items → Tells log begun asks' (items ++ write_item n write bytes ∷ [])
tells_write log begun n stands asks asks' items write bytes w t = tells_write_at (stand_in n stands) log begun n asks asks' items write bytes (λ s e. found_is n stands s e) w t

-- a dial, a poll and what else moves nothing
pub tells_still : (log : Option Bool) (begun : Bool) (asks asks' : List Ask) (items : List Item) (item : Item) → Quiet asks asks' → IsStill item → Tells log begun asks items → Tells log begun asks' (items ++ item ∷ [])
tells_still log begun asks asks' items item q still w = tells_quiet log begun asks asks' items item q still w

-- calls of the log, which move no bytes of a socket
no_read : (s : ℕ) → SeesNoLog (read_at s)
no_read s = record { opened = λ p r. refl; created = λ p m r. refl; appended = λ b r. refl; synced = λ r. refl; listed = λ r. refl }

no_write : (s : ℕ) → SeesNoLog (wrote_at s)
no_write s = record { opened = λ p r. refl; created = λ p m r. refl; appended = λ b r. refl; synced = λ r. refl; listed = λ r. refl }

-- what is told of the log alone
told_log : (stand : LogStand) (asks : List Ask) (items : List Item) → Tells stand.file stand.begun asks items → TellsLog stand asks (log_in items)
told_log stand asks items t = record { kept = t.kept; synced = t.synced; same = t.same }

-- an item that moves no bytes of a socket, and calls that don't either, and come to this log
tells_logged : (stand stand' : LogStand) (asks asks' : List Ask) (items : List Item) (item : Item) (l : Log) →
    ((s : ℕ) → read_in s asks' ≡ read_in s asks) → ((s : ℕ) → wrote_in s asks' ≡ wrote_in s asks) → ((s : ℕ) → took_at s item ≡ []) → ((s : ℕ) → gave_at s item ≡ []) →
    log_after (log_in items) item ≡ l → TellsLog stand' asks' l → Tells stand.file stand.begun asks items → Tells stand'.file stand'.begun asks' (items ++ item ∷ [])
tells_logged stand stand' asks asks' items item l reads writes took gave comes log t =
    let is : TellsLog stand' asks' (log_in (items ++ item ∷ [])) = subst (λ (x : Log). TellsLog stand' asks' x) (sym (log_more items item ∙ comes)) log in
    record {
      taken = λ s. taken-more s items item ∙ ap (λ (x : List ℕ). taken_in s items ++ x) (took s) ∙ append-nil (taken_in s items) ∙ t.taken s ∙ sym (reads s);
      given = λ s. given-more s items item ∙ ap (λ (x : List ℕ). given_in s items ++ x) (gave s) ∙ append-nil (given_in s items) ∙ t.given s ∙ sym (writes s);
      kept = is.kept;
      synced = is.synced;
      same = is.same;
    }

log_took : (did : Did) (name : List ℕ) (s : ℕ) → (took_at s (log_item did name) ≡ []) × (gave_at s (log_item did name) ≡ [])
log_took Did.Done name s = (refl, refl)
log_took Did.Failed name s = (refl, refl)

log_begins : (did : Did) (name : List ℕ) (l : Log) → log_after l (log_item did name) ≡ l
log_begins Did.Done name l = refl
log_begins Did.Failed name l = refl

tells_begun : (name : List ℕ) (stand : LogStand) (is_done : Bool) (did : Did) (a b : Net) (items : List Item) → LogsTo name stand.begun is_done a b →
    Tells stand.file stand.begun a.asks items → Tells (logged_on is_done stand).file (logged_on is_done stand).begun b.asks (items ++ log_item did name ∷ [])
tells_begun name stand is_done did a b items w t =
    tells_logged stand (logged_on is_done stand) a.asks b.asks items (log_item did name) (log_in items)
    (λ s. unseen_begun (read_at s) (no_read s) name stand.begun is_done a.asks b.asks w.0) (λ s. unseen_begun (wrote_at s) (no_write s) name stand.begun is_done a.asks b.asks w.0)
    (λ s. (log_took did name s).0) (λ s. (log_took did name s).1) (log_begins did name (log_in items))
    (tells_log_begun name stand is_done a.asks b.asks (log_in items) w.0 (told_log stand a.asks items t)) t

keep_took : (did : Did) (bytes : List ℕ) (s : ℕ) → (took_at s (keep_item did bytes) ≡ []) × (gave_at s (keep_item did bytes) ≡ [])
keep_took Did.Done bytes s = (refl, refl)
keep_took Did.Failed bytes s = (refl, refl)

keep_adds : (is_done : Bool) (bytes : List ℕ) (l : Log) → log_after l (keep_item (did_by is_done) bytes) ≡ log_kept is_done bytes l
keep_adds true bytes l = refl
keep_adds false bytes l = refl

tells_kept : (bytes : List ℕ) (stand : LogStand) (is_done : Bool) (a b : Net) (items : List Item) → Keeps bytes stand.file is_done a b →
    Tells stand.file stand.begun a.asks items → Tells (kept_on is_done stand).file (kept_on is_done stand).begun b.asks (items ++ keep_item (did_by is_done) bytes ∷ [])
tells_kept bytes stand is_done a b items w t =
    tells_logged stand (kept_on is_done stand) a.asks b.asks items (keep_item (did_by is_done) bytes) (log_kept is_done bytes (log_in items))
    (λ s. unseen_kept (read_at s) (no_read s) bytes stand.file is_done a.asks b.asks w.0) (λ s. unseen_kept (wrote_at s) (no_write s) bytes stand.file is_done a.asks b.asks w.0)
    (λ s. (keep_took (did_by is_done) bytes s).0) (λ s. (keep_took (did_by is_done) bytes s).1) (keep_adds is_done bytes (log_in items))
    (tells_log_kept stand bytes is_done a.asks b.asks (log_in items) w.0 (told_log stand a.asks items t)) t

sync_took : (did : Did) (s : ℕ) → (took_at s (sync_item did) ≡ []) × (gave_at s (sync_item did) ≡ [])
sync_took Did.Done s = (refl, refl)
sync_took Did.Failed s = (refl, refl)

sync_stores : (is_done : Bool) (l : Log) → log_after l (sync_item (did_by is_done)) ≡ log_synced is_done l
sync_stores true l = refl
sync_stores false l = refl

tells_synced : (stand : LogStand) (is_done : Bool) (a b : Net) (items : List Item) → SyncsTo stand.file is_done a b →
    Tells stand.file stand.begun a.asks items → Tells (synced_on is_done stand).file (synced_on is_done stand).begun b.asks (items ++ sync_item (did_by is_done) ∷ [])
tells_synced stand is_done a b items w t =
    tells_logged stand (synced_on is_done stand) a.asks b.asks items (sync_item (did_by is_done)) (log_synced is_done (log_in items))
    (λ s. unseen_synced (read_at s) (no_read s) stand.file is_done a.asks b.asks w.0) (λ s. unseen_synced (wrote_at s) (no_write s) stand.file is_done a.asks b.asks w.0)
    (λ s. (sync_took (did_by is_done) s).0) (λ s. (sync_took (did_by is_done) s).1) (sync_stores is_done (log_in items))
    (tells_log_synced stand is_done a.asks b.asks (log_in items) w.0 (told_log stand a.asks items t)) t

-- the same, from what the calls say
pub tells_begun_as : (name : List ℕ) (stand stand' : LogStand) (is_done : Bool) (did : Did) (a b : Net) (items items' : List Item) → LogsTo name stand.begun is_done a b →
    stand' ≡ logged_on is_done stand → items' ≡ items ++ log_item did name ∷ [] → Tells stand.file stand.begun a.asks items → Tells stand'.file stand'.begun b.asks items'
tells_begun_as name stand stand' is_done did a b items items' w l e t =
    subst (λ (x : List Item). Tells stand'.file stand'.begun b.asks x) (sym e)
    (subst (λ (x : LogStand). Tells x.file x.begun b.asks (items ++ log_item did name ∷ [])) (sym l) (tells_begun name stand is_done did a b items w t))

pub tells_kept_as : (bytes : List ℕ) (stand stand' : LogStand) (is_done : Bool) (did : Did) (a b : Net) (items items' : List Item) → Keeps bytes stand.file is_done a b →
    stand' ≡ kept_on is_done stand → did ≡ did_by is_done → items' ≡ items ++ keep_item did bytes ∷ [] → Tells stand.file stand.begun a.asks items → Tells stand'.file stand'.begun b.asks items'
tells_kept_as bytes stand stand' is_done did a b items items' w l d e t =
    subst (λ (x : List Item). Tells stand'.file stand'.begun b.asks x) (sym (e ∙ ap (λ (x : Did). items ++ keep_item x bytes ∷ []) d))
    (subst (λ (x : LogStand). Tells x.file x.begun b.asks (items ++ keep_item (did_by is_done) bytes ∷ [])) (sym l) (tells_kept bytes stand is_done a b items w t))

pub tells_synced_as : (stand stand' : LogStand) (is_done : Bool) (did : Did) (a b : Net) (items items' : List Item) → SyncsTo stand.file is_done a b →
    stand' ≡ synced_on is_done stand → did ≡ did_by is_done → items' ≡ items ++ sync_item did ∷ [] → Tells stand.file stand.begun a.asks items → Tells stand'.file stand'.begun b.asks items'
tells_synced_as stand stand' is_done did a b items items' w l d e t =
    subst (λ (x : List Item). Tells stand'.file stand'.begun b.asks x) (sym (e ∙ ap (λ (x : Did). items ++ sync_item x ∷ []) d))
    (subst (λ (x : LogStand). Tells x.file x.begun b.asks (items ++ sync_item (did_by is_done) ∷ [])) (sym l) (tells_synced stand is_done a b items w t))
