-- Kept: what books keep of a player.
use Rattle.std.proofs.Common.{◌≡◌, ℕ, ◌+◌, ◌-◌, ◌<◌, ◌≤◌, Bool, true, false, List, [], ◌∷◌, ◌++◌, get_or, length, refl, sym, ap, subst, ◌∙◌, arith, slice_set}
use Rattle.std.specs.Prelude.{Option, Some, Result, Ok, Err, OnOk, is_err, replicate, slice_get, if◌then◌else◌}
use Rattle.std.proofs.lemmas.List.Sums.{fold-append}
use Rattle.std.proofs.lemmas.Option.{get_or_from_slice_get}
use Rattle.record.specs.Note.{Note}
use Rattle.definitions.specs.declared.limits.TheConstants.{LONGEST_LOG}
use Rattle.definitions.specs.World.{Game, players_of}
use Rattle.definition_laws.proofs.Listing.{slice_get_map}
use Rattle.definition_laws.proofs.Nexts.{some_at}
use Rattle.agreed_turns.specs.States.{AgreedState}
use Rattle.frame_index.specs.declared.limits.TheConstants.{MOST_LOGS}
use Rattle.auditor.specs.Audits.{AuditState, count_in}
use Rattle.auditor.specs.Taking.{IsFeeding}
use Rattle.log_streams.specs.Streams.{Stream, count_at, count_of, entries_of, feeding_of, lists_of, no_streams, room_at, room_of, took, took_of, with_stream}
use Rattle.log_books.specs.declared.pages.Page.{Page}
use Rattle.log_books.specs.Heeding.{Heeds, IsOwn}
use Rattle.log_books.specs.Pages.{GoesOn, IsPageOf, closed_at}
use Rattle.log_books.proofs.Lists.{get_front, same_get}
use Rattle.log_books.specs.Books.{StandFor, StandIfWhole, BooksState, streams_by, with_note}
use Rattle.log_books.proofs.Standing.{stand_on}

pub on_ok : {T E : Type 0} {P : Type 0} (r : Result T E) → is_err r ≡ false → OnOk r P → P
on_ok (Ok x) e p = p
on_ok (Err x) e p = absurd (cc)

-- what contracts see of these
abbrev pub seen : Game → List Stream → Bool → BooksState
seen game streams out = record { game = game; streams = streams; is_out_of_memory = out }

pub stands : (game : Game) (streams : List Stream) (out : Bool) (a : AuditState) (g : AgreedState) (pages : List Page) (v : BooksState) → seen game streams out ≡ v → StandIfWhole game streams out a g pages → v.is_out_of_memory ≡ false → StandFor game streams a g pages
stands game streams out a g pages v e i whole = i (ap (λ (w : BooksState). w.is_out_of_memory) e ∙ whole)

-- the page of a player and its stream
pub record KeptOf (game : Game) (streams : List Stream) (a : AuditState) (pages : List Page) (q : ℕ) (p : Page) : Type 0 where
  pub stream : Stream
  pub there_is : slice_get streams q ≡ Some stream
  pub page : IsPageOf game a q stream p

pub kept_of : (game : Game) (streams : List Stream) (a : AuditState) (g : AgreedState) (pages : List Page) (q k : ℕ) (p : Page) → StandFor game streams a g pages → q < players_of game → k ≡ q → p ≡ get_or pages k p → KeptOf game streams a pages q p
kept_of game streams a g pages q k p w lt e at =
    let s = some_at streams q (let m = w.many in omega (arith, lt, m)) in
    let x = some_at pages q (let m = w.each in omega (arith, lt, m)) in
    let is : p ≡ x.0 = at ∙ ap (λ (n : ℕ). get_or pages n p) e ∙ get_or_from_slice_get pages q x.0 p x.1 in
    record {
      stream = s.0;
      there_is = s.1;
      page = w.pages_are q s.0 p s.1 (x.1 ∙ ap (λ (y : Page). Some y) (sym is));
    }

-- the same, as contracts see the books
pub kept_here : (game : Game) (streams : List Stream) (out : Bool) (a : AuditState) (g : AgreedState) (pages : List Page) (v : BooksState) (q k : ℕ) (p : Page) → seen game streams out ≡ v → StandIfWhole game streams out a g pages → v.is_out_of_memory ≡ false → q < players_of v.game →
    k ≡ q → p ≡ get_or pages k p → KeptOf game streams a pages q p
kept_here game streams out a g pages v q k p e i whole lt same at =
    kept_of game streams a g pages q k p (stands game streams out a g pages v e i whole) (let n = ap (λ (w : BooksState). players_of w.game) e in omega (arith, lt, n)) same at

pub count_here : (game : Game) (streams : List Stream) (out : Bool) (a : AuditState) (pages : List Page) (v : BooksState) (q : ℕ) (p : Page) → seen game streams out ≡ v → KeptOf game streams a pages q p → p.count ≡ count_at (slice_get v.streams q)
count_here game streams out a pages v q p e w = w.page.count ∙ ap count_at (sym w.there_is) ∙ ap (λ (x : BooksState). count_at (slice_get x.streams q)) e

pub room_here : (game : Game) (streams : List Stream) (out : Bool) (a : AuditState) (pages : List Page) (v : BooksState) (q n : ℕ) (p : Page) → seen game streams out ≡ v → (w : KeptOf game streams a pages q p) → n ≡ room_of w.stream → n ≡ room_at (slice_get v.streams q)
room_here game streams out a pages v q n p e w is = is ∙ ap room_at (sym w.there_is) ∙ ap (λ (x : BooksState). room_at (slice_get x.streams q)) e

room_within : (s : Stream) (count : ℕ) → count ≤ room_of s → count_of s ≤ LONGEST_LOG → count_of s + count ≤ LONGEST_LOG
room_within s count few most = go s.is_closed few
  where
    go : (b : Bool) → count ≤ (if b then 0 else LONGEST_LOG - count_of s) → count_of s + count ≤ LONGEST_LOG
    go true f = omega (arith, f, most)
    go false f = omega (arith, f, most)

pub few_here : (game : Game) (streams : List Stream) (out : Bool) (a : AuditState) (pages : List Page) (v : BooksState) (q count : ℕ) (p : Page) → seen game streams out ≡ v → KeptOf game streams a pages q p → count ≤ room_at (slice_get v.streams q) →
    p.count + count ≤ LONGEST_LOG
few_here game streams out a pages v q count p e w few =
    let room = ap room_at (sym w.there_is) ∙ ap (λ (x : BooksState). room_at (slice_get x.streams q)) e in
    let n = w.page.count in
    let most = w.page.most in
    let within = room_within w.stream count (omega (arith, few, room)) (omega (arith, n, most)) in
    omega (arith, n, within)

pub feeding_here : (game : Game) (streams : List Stream) (a : AuditState) (pages : List Page) (q : ℕ) (p : Page) → KeptOf game streams a pages q p → IsFeeding a q p.feed
feeding_here game streams a pages q p w = record { stands = (feeding_of game (w.stream).pieces, w.page.feed); counted = w.page.counted }

-- the auditor's session is the books'
pub goes_as : (game other : Game) (a b : AuditState) (q : ℕ) (s : Stream) (bytes : List ℕ) (p m : Page) → other ≡ game → IsPageOf game a q s p → (IsPageOf other a q s p → GoesOn other a b q s (took other q s bytes) m) → GoesOn game a b q s (took game q s bytes) m
goes_as game other a b q s bytes p m e w goes =
    subst (λ (g : Game). GoesOn g a b q s (took g q s bytes) m) e (goes (subst (λ (g : Game). IsPageOf g a q s p) (sym e) w))

-- one note more
pub noted : (game : Game) (notes now : List Note) (n : Note) → now ≡ notes ++ n ∷ [] → streams_by game now ≡ with_note game (streams_by game notes) n
noted game notes now n e = ap (streams_by game) e ∙ fold-append (with_note game) (no_streams game) notes (n ∷ [])

pub heeds_as : (game other : Game) (a : AuditState) (g h : AgreedState) (q : ℕ) (s : Stream) (bytes : List ℕ) (p : Page) → other ≡ game → IsPageOf game a q s p → IsOwn game q s → (IsPageOf other a q s p → IsOwn other q s → Heeds other a g h q s (took other q s bytes)) →
    Heeds game a g h q s (took game q s bytes)
heeds_as game other a g h q s bytes p e w own heeds =
    subst (λ (x : Game). Heeds x a g h q s (took x q s bytes)) e (heeds (subst (λ (x : Game). IsPageOf x a q s p) (sym e) w) (subst (λ (x : Game). IsOwn x q s) (sym e) own))

pub goes_here : (game : Game) (notes now : List Note) (out : Bool) (a b : AuditState) (g h : AgreedState) (pages : List Page) (v : BooksState) (q k i : ℕ) (bytes : List ℕ) (p m : Page) → seen game (streams_by game notes) out ≡ v →
    StandIfWhole game (streams_by game notes) out a g pages → v.is_out_of_memory ≡ false → (w : KeptOf game (streams_by game notes) a pages q p) → i ≡ q → k ≡ q → now ≡ notes ++ record { numbers = i ∷ []; name = []; bytes = bytes } ∷ [] →
    GoesOn game a b q w.stream (took game q w.stream bytes) m → Heeds game a g h q w.stream (took game q w.stream bytes) → StandFor game (streams_by game now) b h (slice_set pages k m)
goes_here game notes now out a b g h pages v q k i bytes p m e inv whole w num at on goes heeds =
    let streams : List Stream = streams_by game notes in
    let is : streams_by game now ≡ slice_set streams q (took game q w.stream bytes) =
    noted game notes now (record { numbers = i ∷ []; name = []; bytes = bytes }) on ∙ ap (λ (n : ℕ). took_of game n bytes streams) num ∙ ap (with_stream game q bytes streams) w.there_is in
    subst (λ (ss : List Stream). StandFor game ss b h (slice_set pages k m)) (sym is)
    (subst (λ (n : ℕ). StandFor game (slice_set streams q (took game q w.stream bytes)) b h (slice_set pages n m)) (sym at)
    (stand_on game streams a b g h pages q w.stream (took game q w.stream bytes) m (stands game streams out a g pages v e inv whole) w.there_is goes heeds))

-- ---- how far a log came

pub closed_here : (game : Game) (streams : List Stream) (out : Bool) (a : AuditState) (pages : List Page) (v : BooksState) (q : ℕ) (p : Page) (o : Option ℕ) → seen game streams out ≡ v → (w : KeptOf game streams a pages q p) → o ≡ closed_at game w.stream →
    (s : Stream) → slice_get v.streams q ≡ Some s → o ≡ closed_at v.game s
closed_here game streams out a pages v q p o e w is s there =
    let same : w.stream ≡ s = same_get (slice_get v.streams q) w.stream s (ap (λ (x : BooksState). slice_get x.streams q) (sym e) ∙ w.there_is) there in
    is ∙ ap (closed_at game) same ∙ ap (λ (x : BooksState). closed_at x.game s) e

pub entries_here : (game : Game) (streams : List Stream) (out : Bool) (a : AuditState) (g : AgreedState) (pages : List Page) (v : BooksState) (q n : ℕ) → seen game streams out ≡ v → StandFor game streams a g pages → n ≡ count_in a q →
    (s : Stream) → slice_get v.streams q ≡ Some s → n ≡ length (entries_of v.game s)
entries_here game streams out a g pages v q n e w is s there =
    let at : slice_get streams q ≡ Some s = ap (λ (x : BooksState). slice_get x.streams q) e ∙ there in
    let list : slice_get (lists_of game streams) q ≡ Some (entries_of game s) = slice_get_map (entries_of game) streams q s at in
    is ∙ (w.audit.audit).counted q (entries_of game s) (get_front (lists_of game streams) (replicate (MOST_LOGS - length (lists_of game streams)) []) q (entries_of game s) list)
    ∙ ap (λ (x : BooksState). length (entries_of x.game s)) e
