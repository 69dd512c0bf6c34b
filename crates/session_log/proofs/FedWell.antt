-- FedWell: the entries that a feed gives are well-formed.
use Rattle.std.proofs.Common.{Bool, List, None, Some, [], ap, cond, false, refl, subst, sym, true, ℕ, ◌++◌, ◌+◌, ◌∙◌, ◌∷◌, ◌≡◌, Option}
use Rattle.std.specs.Prelude.{Ok, Err, if◌then◌else◌, nat_lt}
use Rattle.definitions.specs.declared.logs.Entry.{Entry}
use Rattle.session_log.specs.declared.faults.LogFault.{LogFault}
use Rattle.definitions.specs.declared.logs.LogWhy.TheVariants.{BadChain, BadEntry}
use Rattle.definitions.specs.World.{Game, players_of}
use Rattle.definitions.specs.Entries.{is_well_formed}
use Rattle.session_log.specs.declared.finding.Found.{Found}
use Rattle.session_log.specs.declared.finding.Found.TheVariants as found
use Rattle.session_log.specs.Entries.{entry_of, told_len}
use Rattle.session_log.specs.Feeding.{FeedStep, LogFeeding, entry_fed, fault_step, fed_by_owner, fed_step, fed_unless, feed_of, first_fed, one_more, step_by_found}
use Rattle.session_log.specs.Reading.{Answer, fault_at}
use Rattle.session_log.specs.Finding.{digest_at, entry_at, is_torn, is_unchained, owned_by, text_at}

-- the entry may stand in some player's log
abbrev pub IsOwned : Game → Entry → Type 0
IsOwned game e = (me : ℕ) × (is_well_formed game me e ≡ true)

owned_well : (game : Game) (me : ℕ) (o : Option Entry) (n : ℕ) (d : List ℕ) (e : Entry) (count : ℕ) (digest : List ℕ) → owned_by game me o n d ≡ found.Whole e count digest → IsOwned game e
owned_well game me None n d e count digest h = let none : found.Bad BadEntry ≡ found.Whole e count digest = h in absurd (cc)
owned_well game me (Some f) n d e count digest h = go (is_well_formed game me f) refl h
  where
    go : (b : Bool) → is_well_formed game me f ≡ b → (if b then found.Whole f n d else found.Bad BadEntry) ≡ found.Whole e count digest → IsOwned game e
    go false w h = let none : found.Bad BadEntry ≡ found.Whole e count digest = h in absurd (cc)
    go true w h =
        let one : found.Whole f n d ≡ found.Whole e count digest = h in
        let same : f ≡ e = cc in
        (me, ap (is_well_formed game me) (sym same) ∙ w)

entry_well : (game : Game) (me : ℕ) (chain bytes : List ℕ) (e : Entry) (count : ℕ) (digest : List ℕ) → entry_at game me chain bytes ≡ found.Whole e count digest → IsOwned game e
unfolding entry_at
entry_well game me chain bytes e count digest h = torn (is_torn bytes) h
  where
    chained : (b : Bool) → (if b then found.Bad BadChain else owned_by game me (entry_of (text_at bytes)) (told_len bytes + 35) (digest_at bytes)) ≡ found.Whole e count digest → IsOwned game e
    chained true h = let none : found.Bad BadChain ≡ found.Whole e count digest = h in absurd (cc)
    chained false h = owned_well game me (entry_of (text_at bytes)) (told_len bytes + 35) (digest_at bytes) e count digest h

    torn : (b : Bool) → (if b then found.Torn else if is_unchained chain bytes then found.Bad BadChain else owned_by game me (entry_of (text_at bytes)) (told_len bytes + 35) (digest_at bytes)) ≡ found.Whole e count digest →
        IsOwned game e
    torn true h = let none : found.Torn ≡ found.Whole e count digest = h in absurd (cc)
    torn false h = chained (is_unchained chain bytes) h

-- this entry comes next
abbrev Comes : Entry → Answer → Type 0
Comes e next = next ≡ Ok (Some e)

no_fault : (e : Entry) (x : LogFault) → Comes e (Err x) → ⊥
no_fault e x h = cc

no_none : (e : Entry) → Comes e (Ok None) → ⊥
no_none e h = cc

same_entry : (e g : Entry) → Comes e (Ok (Some g)) → g ≡ e
same_entry e g h = cc

step_well : (game : Game) (me : ℕ) (f : LogFeeding) (bytes : List ℕ) (e : Entry) → (entry_fed game me f bytes).fed.what ≡ Ok (Some e) → IsOwned game e
step_well game me f bytes e h = go (entry_at game me f.chain (f.held ++ bytes)) refl h
  where
    go : (x : Found) → entry_at game me f.chain (f.held ++ bytes) ≡ x → (step_by_found f bytes (told_len (f.held ++ bytes) + 35) x).fed.what ≡ Ok (Some e) → IsOwned game e
    go found.Torn x h = absurd (no_none e h)
    go (found.Bad why) x h = absurd (no_fault e (fault_at f.at why) h)
    go (found.Whole g n d) x h =
        let same : g ≡ e = same_entry e g h in
        subst (IsOwned game) same (entry_well game me f.chain (f.held ++ bytes) g n d x)

-- an entry that a feed gives is one that some player's log may have
pub fed_well : (game : Game) (f : LogFeeding) (bytes : List ℕ) (e : Entry) → (fed_step game f bytes).fed.what ≡ Ok (Some e) → IsOwned game e
unfolding fed_step
fed_well game f bytes e h = unless f.fault h
  where
    chosen : ℕ → List ℕ → Bool → FeedStep
    chosen me bs b = if b then one_more (entry_fed game me (feed_of f me) bs) else fault_step f 1 (fault_at 0 BadEntry)

    first : (bs : List ℕ) → (first_fed game f bs).fed.what ≡ Ok (Some e) → IsOwned game e
    first [] h = absurd (no_none e h)
    first (me ∷ bs) h = go (nat_lt me (players_of game)) h
      where
        go : (b : Bool) → (chosen me bs b).fed.what ≡ Ok (Some e) → IsOwned game e
        go true h = step_well game me (feed_of f me) bs e h
        go false h = absurd (no_fault e (fault_at 0 BadEntry) h)

    owner : (o : Option ℕ) → (fed_by_owner game o f bytes).fed.what ≡ Ok (Some e) → IsOwned game e
    owner None h = first bytes h
    owner (Some me) h = step_well game me f bytes e h

    unless : (x : Option LogFault) → (fed_unless x f (fed_by_owner game f.owner f bytes)).fed.what ≡ Ok (Some e) → IsOwned game e
    unless None h = owner f.owner h
    unless (Some x) h = absurd (no_fault e x h)
