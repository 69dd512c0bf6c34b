-- Unseen: what is read off calls, and sees none of those of a log, is the same after them.
use Rattle.std.proofs.Common.{◌≡◌, inl, inr, ℕ, Bool, true, false, List, [], ◌∷◌, ◌++◌, Option, Some, None, ap, ◌∙◌, refl}
use Rattle.std.specs.Prelude.{Result}
use Rattle.std.specs.List.{flat_map}
use Rattle.std.proofs.lemmas.List.{append-nil}
use Rattle.std.proofs.lemmas.Grind.{flat_map-append}
use Rattle.machine_host.specs.declared.faults.HostFault.{HostFault}
use Rattle.machine_host.specs.Asks as A
use Rattle.machine_host.specs.Asks.{Ask}
use Rattle.host_log.specs.Files.{AreAppends, SyncsLog}
use Rattle.host_log.specs.Logs.{Keeps, LogsTo, SyncsTo}

-- it sees none of the calls of a log
pub record SeesNoLog {T : Type 0} (f : Ask → List T) : Type 0 where
  pub opened : (path : List ℕ) (answer : Option HostFault) → f (A.FolderOpened path answer) ≡ []
  pub created : (path : List ℕ) (mode : ℕ) (answer : Option HostFault) → f (A.Created path mode answer) ≡ []
  pub appended : (bytes : List ℕ) (answer : Result ℕ HostFault) → f (A.Appended bytes answer) ≡ []
  pub synced : (answer : Option HostFault) → f (A.FileSynced answer) ≡ []
  pub listed : (answer : Option HostFault) → f (A.FolderSynced answer) ≡ []

unseen_by : {T : Type 0} (f : Ask → List T) (asks asks' more : List Ask) → asks' ≡ asks ++ more → flat_map f more ≡ [] → flat_map f asks' ≡ flat_map f asks
unseen_by f asks asks' more e none =
    ap (λ x. flat_map f x) e ∙ flat_map-append f asks more ∙ ap (λ x. flat_map f asks ++ x) none ∙ append-nil (flat_map f asks)

one_unseen : {T : Type 0} (f : Ask → List T) (a : Ask) → f a ≡ [] → flat_map f (a ∷ []) ≡ []
one_unseen f a p = ap (λ x. x ++ []) p

two_unseen : {T : Type 0} (f : Ask → List T) (a b : Ask) → f a ≡ [] → f b ≡ [] → flat_map f (a ∷ b ∷ []) ≡ []
two_unseen f a b p q = ap (λ x. x ++ flat_map f (b ∷ [])) p ∙ one_unseen f b q

appends_unseen : {T : Type 0} (f : Ask → List T) → SeesNoLog f → (more : List Ask) → AreAppends more → flat_map f more ≡ []
appends_unseen f n [] w = refl
appends_unseen f n (A.Appended bytes answer ∷ more) w = ap (λ x. x ++ flat_map f more) (n.appended bytes answer) ∙ appends_unseen f n more w
appends_unseen f n (_ ∷ more) w = absurd w

pub unseen_begun : {T : Type 0} (f : Ask → List T) → SeesNoLog f → (name : List ℕ) (begun is_done : Bool) (asks asks' : List Ask) → LogsTo name begun is_done asks asks' → flat_map f asks' ≡ flat_map f asks
unseen_begun f n name true is_done asks asks' w = ap (λ x. flat_map f x) w.1
unseen_begun f n name false true asks asks' (folder, is, e) =
    unseen_by f asks asks' (A.FolderOpened folder None ∷ A.Created name 0o600 None ∷ []) e (two_unseen f (A.FolderOpened folder None) (A.Created name 0o600 None) (n.opened folder None) (n.created name 0o600 None))
unseen_begun f n name false false asks asks' (folder, is, fault, inl e) =
    unseen_by f asks asks' (A.FolderOpened folder (Some fault) ∷ []) e (one_unseen f (A.FolderOpened folder (Some fault)) (n.opened folder (Some fault)))
unseen_begun f n name false false asks asks' (folder, is, fault, inr e) =
    unseen_by f asks asks' (A.FolderOpened folder None ∷ A.Created name 0o600 (Some fault) ∷ []) e
    (two_unseen f (A.FolderOpened folder None) (A.Created name 0o600 (Some fault)) (n.opened folder None) (n.created name 0o600 (Some fault)))

pub unseen_kept : {T : Type 0} (f : Ask → List T) → SeesNoLog f → (bytes : List ℕ) (file : Option Bool) (is_done : Bool) (asks asks' : List Ask) → Keeps bytes file is_done asks asks' → flat_map f asks' ≡ flat_map f asks
unseen_kept f n bytes None is_done asks asks' w = ap (λ x. flat_map f x) w.1
unseen_kept f n bytes (Some has_folder) is_done asks asks' w = unseen_by f asks asks' w.more w.asked (appends_unseen f n w.more w.only)

fails_unseen : {T : Type 0} (f : Ask → List T) → SeesNoLog f → (has_folder : Bool) (asks asks' : List Ask) → SyncsLog has_folder false asks asks' → flat_map f asks' ≡ flat_map f asks
fails_unseen f n true asks asks' (fault, inl e) = unseen_by f asks asks' (A.FileSynced (Some fault) ∷ []) e (one_unseen f (A.FileSynced (Some fault)) (n.synced (Some fault)))
fails_unseen f n true asks asks' (fault, inr e) =
    unseen_by f asks asks' (A.FileSynced None ∷ A.FolderSynced (Some fault) ∷ []) e (two_unseen f (A.FileSynced None) (A.FolderSynced (Some fault)) (n.synced None) (n.listed (Some fault)))
fails_unseen f n false asks asks' (fault, inl e) = unseen_by f asks asks' (A.FileSynced (Some fault) ∷ []) e (one_unseen f (A.FileSynced (Some fault)) (n.synced (Some fault)))
fails_unseen f n false asks asks' (fault, inr e) =
    unseen_by f asks asks' (A.FileSynced None ∷ A.FolderSynced (Some fault) ∷ []) e (two_unseen f (A.FileSynced None) (A.FolderSynced (Some fault)) (n.synced None) (n.listed (Some fault)))

pub unseen_synced : {T : Type 0} (f : Ask → List T) → SeesNoLog f → (file : Option Bool) (is_done : Bool) (asks asks' : List Ask) → SyncsTo file is_done asks asks' → flat_map f asks' ≡ flat_map f asks
unseen_synced f n None is_done asks asks' w = ap (λ x. flat_map f x) w.1
unseen_synced f n (Some true) true asks asks' e =
    unseen_by f asks asks' (A.FileSynced None ∷ A.FolderSynced None ∷ []) e (two_unseen f (A.FileSynced None) (A.FolderSynced None) (n.synced None) (n.listed None))
unseen_synced f n (Some false) true asks asks' e = unseen_by f asks asks' (A.FileSynced None ∷ []) e (one_unseen f (A.FileSynced None) (n.synced None))
unseen_synced f n (Some has_folder) false asks asks' w = fails_unseen f n has_folder asks asks' w
