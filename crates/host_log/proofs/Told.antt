-- Told: what a log tells of its file, one more call after the other.
use Rattle.std.proofs.Common.{◌≡◌, inl, inr, ℕ, Bool, true, false, List, [], ◌∷◌, ◌++◌, Option, Some, None, take, refl, sym, ap, ◌∙◌, subst}
use Rattle.std.specs.Prelude.{Ok, Err, if◌then◌else◌}
use Rattle.std.specs.List.{fold}
use Rattle.std.proofs.lemmas.List.{append_assoc, append-nil}
use Rattle.std.proofs.lemmas.List.Sums.{fold-append}
use Rattle.socket_station.specs.Moved.{Log}
use Rattle.machine_host.specs.declared.faults.HostFault.{HostFault}
use Rattle.machine_host.specs.Asks as A
use Rattle.machine_host.specs.Asks.{Ask}
use Rattle.host_log.specs.Files.{AppendsAll, AreAppends, CreatesLog, SyncsLog, appended_in}
use Rattle.host_log.specs.Logs.{Keeps, LogStand, LogsTo, SyncsTo, kept_on, logged_on, no_log, synced_on}
use Rattle.host_log.specs.Telling.{File, IsFront, IsLog, TellsLog, file_after, file_in, log_kept, log_synced, no_file, stays_of}

-- before the first call
pub tells_log_none : TellsLog no_log [] (record { kept = []; synced = [] })
tells_log_none = record { kept = ([], refl); synced = ([], refl); same = (refl, refl) }

-- calls that come to this file, and this log
tells_by : (file : Option Bool) (begun : Bool) (asks asks' more : List Ask) (f : File) (l : Log) → asks' ≡ asks ++ more → fold file_after (file_in asks) more ≡ f →
    IsFront l.kept f.bytes → IsFront l.synced (stays_of f) → IsLog file begun f l → TellsLog (record { file = file; begun = begun }) asks' l
tells_by file begun asks asks' more f l e comes front stays is =
    let back : f ≡ file_in asks' = sym (ap (λ (x : List Ask). file_in x) e ∙ fold-append file_after no_file asks more ∙ comes) in
    record {
      kept = subst (λ (x : File). IsFront l.kept x.bytes) back front;
      synced = subst (λ (x : File). IsFront l.synced (stays_of x)) back stays;
      same = subst (λ (x : File). IsLog file begun x l) back is;
    }

-- calls that leave the file as it is
pub tells_log_quiet : (stand : LogStand) (asks asks' : List Ask) (l : Log) → file_in asks' ≡ file_in asks → TellsLog stand asks l → TellsLog stand asks' l
tells_log_quiet stand asks asks' l e t = record {
  kept = subst (λ (x : File). IsFront l.kept x.bytes) (sym e) t.kept;
  synced = subst (λ (x : File). IsFront l.synced (stays_of x)) (sym e) t.synced;
  same = subst (λ (x : File). IsLog stand.file stand.begun x l) (sym e) t.same;
}

same_asks : (stand : LogStand) (asks asks' : List Ask) (l : Log) → asks' ≡ asks → TellsLog stand asks l → TellsLog stand asks' l
same_asks stand asks asks' l e t = subst (λ (x : List Ask). TellsLog stand x l) (sym e) t

-- more bytes at the file's end
abbrev pub longer : File → List ℕ → File
longer f bytes = record { bytes = f.bytes ++ bytes; synced = f.synced; is_listed = f.is_listed }

appends_file : (f : File) (more : List Ask) → AreAppends more → fold file_after f more ≡ longer f (appended_in more)
appends_file f [] w = ap (λ (x : List ℕ). record { bytes = x; synced = f.synced; is_listed = f.is_listed }) (sym (append-nil f.bytes))
appends_file f (A.Appended b (Ok count) ∷ more) w =
    appends_file (longer f (take count b)) more w ∙
    ap (λ (x : List ℕ). record { bytes = x; synced = f.synced; is_listed = f.is_listed }) (append_assoc f.bytes (take count b) (appended_in more))
appends_file f (A.Appended b (Err fault) ∷ more) w = appends_file f more w
appends_file f (_ ∷ more) w = absurd w

whole_front : (a b : List ℕ) → b ≡ a → IsFront a b
whole_front a b e = ([], e ∙ sym (append-nil a))

longer_front : (a b more : List ℕ) → IsFront a b → IsFront a (b ++ more)
longer_front a b more w = (w.0 ++ more, ap (λ (x : List ℕ). x ++ more) w.1 ∙ append_assoc a w.0 more)

-- where a file stands, a log was begun
over_of : (begun : Bool) (f : File) (l : Log) → begun ≡ true → IsLog None begun f l
over_of begun f l e = subst (λ (x : Bool). IsLog None x f l) (sym e) tt

kept_all : (has_folder begun : Bool) (bytes : List ℕ) (asks asks' : List Ask) (l : Log) → AppendsAll bytes true asks asks' → TellsLog (record { file = Some has_folder; begun = begun }) asks l →
    TellsLog (record { file = Some has_folder; begun = begun }) asks' (log_kept true bytes l)
kept_all has_folder begun bytes asks asks' l w t =
    let f = file_in asks in
    let all : appended_in w.more ≡ bytes = sym (w.front ∙ ap (λ (x : List ℕ). appended_in w.more ++ x) (w.all refl) ∙ append-nil (appended_in w.more)) in
    let bytes_are : f.bytes ++ bytes ≡ l.kept ++ bytes = ap (λ (x : List ℕ). x ++ bytes) t.same.1 in
    tells_by (Some has_folder) begun asks asks' w.more (longer f bytes) (record { kept = l.kept ++ bytes; synced = l.synced }) w.asked
    (appends_file f w.more w.only ∙ ap (λ (x : List ℕ). longer f x) all)
    (whole_front (l.kept ++ bytes) (f.bytes ++ bytes) bytes_are) t.synced (t.same.0, bytes_are, t.same.2, longer_front l.synced l.kept bytes t.same.3)

kept_some : (has_folder begun : Bool) (bytes : List ℕ) (asks asks' : List Ask) (l : Log) → AppendsAll bytes false asks asks' → TellsLog (record { file = Some has_folder; begun = begun }) asks l →
    TellsLog (record { file = None; begun = begun }) asks' l
kept_some has_folder begun bytes asks asks' l w t =
    let f = file_in asks in
    let more = appended_in w.more in
    tells_by None begun asks asks' w.more (longer f more) l w.asked (appends_file f w.more w.only)
    (longer_front l.kept f.bytes more (whole_front l.kept f.bytes t.same.1)) t.synced (over_of begun (longer f more) l t.same.0)

kept_by : (file : Option Bool) (begun : Bool) (bytes : List ℕ) (is_done : Bool) (asks asks' : List Ask) (l : Log) → Keeps bytes file is_done asks asks' → TellsLog (record { file = file; begun = begun }) asks l →
    TellsLog (kept_on is_done (record { file = file; begun = begun })) asks' (log_kept is_done bytes l)
kept_by None begun bytes true asks asks' l w t = absurd (let e : true ≡ false = w.0 in cc)
kept_by None begun bytes false asks asks' l w t = same_asks (record { file = None; begun = begun }) asks asks' l w.1 t
kept_by (Some has_folder) begun bytes true asks asks' l w t = kept_all has_folder begun bytes asks asks' l w t
kept_by (Some has_folder) begun bytes false asks asks' l w t = kept_some has_folder begun bytes asks asks' l w t

-- bytes were kept, or that failed
pub tells_log_kept : (stand : LogStand) (bytes : List ℕ) (is_done : Bool) (asks asks' : List Ask) (l : Log) → Keeps bytes stand.file is_done asks asks' → TellsLog stand asks l →
    TellsLog (kept_on is_done stand) asks' (log_kept is_done bytes l)
tells_log_kept stand bytes is_done asks asks' l w t = kept_by stand.file stand.begun bytes is_done asks asks' l w t

-- a file that is synced, where its folder was or is too
synced_all : (has_folder begun : Bool) (more asks asks' : List Ask) (l : Log) → asks' ≡ asks ++ more →
    fold file_after (file_in asks) more ≡ record { bytes = (file_in asks).bytes; synced = (file_in asks).bytes; is_listed = true } →
    TellsLog (record { file = Some has_folder; begun = begun }) asks l → TellsLog (record { file = Some false; begun = begun }) asks' (log_synced true l)
synced_all has_folder begun more asks asks' l e comes t =
    let f = file_in asks in
    let kept = whole_front l.kept f.bytes t.same.1 in
    tells_by (Some false) begun asks asks' more (record { bytes = f.bytes; synced = f.bytes; is_listed = true }) (record { kept = l.kept; synced = l.kept })
    e comes kept kept (t.same.0, t.same.1, (λ x. refl), whole_front l.kept l.kept refl)

synced_either : (is_listed : Bool) (log bytes synced : List ℕ) → IsFront log (if is_listed then synced else []) → IsFront log bytes → IsFront log (if is_listed then bytes else [])
synced_either true log bytes synced a b = b
synced_either false log bytes synced a b = a

synced_none : (has_folder begun : Bool) (asks asks' : List Ask) (l : Log) (fault : HostFault) → asks' ≡ asks ++ A.FileSynced (Some fault) ∷ [] →
    TellsLog (record { file = Some has_folder; begun = begun }) asks l → TellsLog (record { file = None; begun = begun }) asks' l
synced_none has_folder begun asks asks' l fault e t =
    let f = file_in asks in
    tells_by None begun asks asks' (A.FileSynced (Some fault) ∷ []) f l e refl (whole_front l.kept f.bytes t.same.1) t.synced (over_of begun f l t.same.0)

synced_file : (has_folder begun : Bool) (asks asks' : List Ask) (l : Log) (fault : HostFault) → asks' ≡ asks ++ A.FileSynced None ∷ A.FolderSynced (Some fault) ∷ [] →
    TellsLog (record { file = Some has_folder; begun = begun }) asks l → TellsLog (record { file = None; begun = begun }) asks' l
synced_file has_folder begun asks asks' l fault e t =
    let f = file_in asks in
    let g : File = record { bytes = f.bytes; synced = f.bytes; is_listed = f.is_listed } in
    tells_by None begun asks asks' (A.FileSynced None ∷ A.FolderSynced (Some fault) ∷ []) g l e refl (whole_front l.kept f.bytes t.same.1)
    (synced_either f.is_listed l.synced f.bytes f.synced t.synced (subst (λ (x : List ℕ). IsFront l.synced x) (sym t.same.1) t.same.3))
    (over_of begun g l t.same.0)

synced_not : (has_folder begun : Bool) (asks asks' : List Ask) (l : Log) → SyncsLog has_folder false asks asks' → TellsLog (record { file = Some has_folder; begun = begun }) asks l →
    TellsLog (record { file = None; begun = begun }) asks' l
synced_not true begun asks asks' l (fault, inl e) t = synced_none true begun asks asks' l fault e t
synced_not true begun asks asks' l (fault, inr e) t = synced_file true begun asks asks' l fault e t
synced_not false begun asks asks' l (fault, inl e) t = synced_none false begun asks asks' l fault e t
synced_not false begun asks asks' l (fault, inr e) t = synced_file false begun asks asks' l fault e t

synced_by : (file : Option Bool) (begun is_done : Bool) (asks asks' : List Ask) (l : Log) → SyncsTo file is_done asks asks' → TellsLog (record { file = file; begun = begun }) asks l →
    TellsLog (synced_on is_done (record { file = file; begun = begun })) asks' (log_synced is_done l)
synced_by None begun true asks asks' l w t = absurd (let e : true ≡ false = w.0 in cc)
synced_by None begun false asks asks' l w t = same_asks (record { file = None; begun = begun }) asks asks' l w.1 t
synced_by (Some true) begun true asks asks' l w t = synced_all true begun (A.FileSynced None ∷ A.FolderSynced None ∷ []) asks asks' l w refl t
synced_by (Some false) begun true asks asks' l w t =
    synced_all false begun (A.FileSynced None ∷ []) asks asks' l w
    (ap (λ (x : Bool). record { bytes = (file_in asks).bytes; synced = (file_in asks).bytes; is_listed = x }) (t.same.2 refl)) t
synced_by (Some has_folder) begun false asks asks' l w t = synced_not has_folder begun asks asks' l w t

-- the log was synced, or that failed
pub tells_log_synced : (stand : LogStand) (is_done : Bool) (asks asks' : List Ask) (l : Log) → SyncsTo stand.file is_done asks asks' → TellsLog stand asks l →
    TellsLog (synced_on is_done stand) asks' (log_synced is_done l)
tells_log_synced stand is_done asks asks' l w t = synced_by stand.file stand.begun is_done asks asks' l w t

not_begun : (file : Option Bool) (f : File) (l : Log) → IsLog file false f l → l ≡ record { kept = []; synced = [] }
not_begun None f l w = w.1
not_begun (Some has_folder) f l w = absurd (let e : false ≡ true = w.0 in cc)

begun_well : (name : List ℕ) (file : Option Bool) (asks asks' : List Ask) (l : Log) → CreatesLog name true asks asks' → TellsLog (record { file = file; begun = false }) asks l →
    TellsLog (record { file = Some true; begun = true }) asks' l
begun_well name file asks asks' l w t =
    let none : l ≡ record { kept = []; synced = [] } = not_begun file (file_in asks) l t.same in
    subst (λ (x : Log). TellsLog (record { file = Some true; begun = true }) asks' x) (sym none)
    (tells_by (Some true) true asks asks' (A.FolderOpened w.0 None ∷ A.Created name 0o600 None ∷ []) no_file (record { kept = []; synced = [] }) w.2 refl ([], refl) ([], refl)
    (refl, refl, (λ x. absurd (let e : true ≡ false = x in cc)), ([], refl)))

begun_not : (name : List ℕ) (file : Option Bool) (asks asks' : List Ask) (l : Log) → CreatesLog name false asks asks' → TellsLog (record { file = file; begun = false }) asks l →
    TellsLog (record { file = file; begun = false }) asks' l
begun_not name file asks asks' l (folder, is, fault, inl e) t =
    tells_by file false asks asks' (A.FolderOpened folder (Some fault) ∷ []) (file_in asks) l e refl t.kept t.synced t.same
begun_not name file asks asks' l (folder, is, fault, inr e) t =
    tells_by file false asks asks' (A.FolderOpened folder None ∷ A.Created name 0o600 (Some fault) ∷ []) (file_in asks) l e refl t.kept t.synced t.same

begun_by : (name : List ℕ) (file : Option Bool) (begun is_done : Bool) (asks asks' : List Ask) (l : Log) → LogsTo name begun is_done asks asks' → TellsLog (record { file = file; begun = begun }) asks l →
    TellsLog (logged_on is_done (record { file = file; begun = begun })) asks' l
begun_by name file true true asks asks' l w t = absurd (let e : true ≡ false = w.0 in cc)
begun_by name file true false asks asks' l w t = same_asks (record { file = file; begun = true }) asks asks' l w.1 t
begun_by name file false true asks asks' l w t = begun_well name file asks asks' l w t
begun_by name file false false asks asks' l w t = begun_not name file asks asks' l w t

-- a log was begun, or that failed
pub tells_log_begun : (name : List ℕ) (stand : LogStand) (is_done : Bool) (asks asks' : List Ask) (l : Log) → LogsTo name stand.begun is_done asks asks' → TellsLog stand asks l →
    TellsLog (logged_on is_done stand) asks' l
tells_log_begun name stand is_done asks asks' l w t = begun_by name stand.file stand.begun is_done asks asks' l w t
