-- New: a loop before its first call.
use Rattle.std.proofs.Common.{◌≡◌, ℕ, zero, suc, ◌*◌, ◌<◌, Bool, true, false, refl, sym, ap, subst, ◌∙◌, List, [], ◌∷◌, ◌++◌, arith, length}
use Rattle.std.specs.Prelude.{◌==◌, map, if◌then◌else◌}
use Rattle.std.proofs.lemmas.Bool.{eq-eqb}
use Rattle.plain_lemmas.proofs.Each.{each_append, each_map}
use Rattle.definitions.specs.Lists.{EachIs}
use Rattle.definitions.specs.World.{Game, players_of}
use Rattle.rosters.specs.declared.roster.Link.{Link}
use Rattle.rosters.specs.Rosters.{Neighbours, unless_me, others, LinksOthers}
use Rattle.socket_lines.specs.Seats.{new_seat}
use Rattle.loop_rules.specs.Told.{HasNone, DiffersBy}
use Rattle.definitions.specs.declared.logs.Entry.{Entry}
use Rattle.peer_core.specs.Views.{PeerState}
use Rattle.session_log.specs.Writing.{Writing, fresh}
use Rattle.peer_rules.specs.declared.phases.Phase.TheVariants.{Fresh}
use Rattle.loop_rules.specs.Tables.{Table}
use Rattle.loop_rules.specs.Views.{first_table}
use Rattle.ready_loop.specs.States.{LoopState, IsFit, IsOthers}
use Rattle.ready_loop.specs.Beginning.{given_by, new_loop}
use Rattle.socket_table.proofs.New.{differ_made}

-- ---- the players of a roster differ

weaker : (n : ℕ) (xs : List ℕ) → EachIs (λ x. x < n) xs → EachIs (λ x. x < suc n) xs
weaker n [] e = tt
weaker n (x ∷ xs) e = (let lt = e.0 in omega (arith, lt), weaker n xs e.1)

one_below : (me q : ℕ) → EachIs (λ x. x < suc q) (unless_me me q)
one_below me q = go (q == me)
  where
    go : (b : Bool) → EachIs (λ x. x < suc q) (if b then [] else q ∷ [])
    go true = tt
    go false = (omega arith, tt)

below : (me n : ℕ) → EachIs (λ x. x < n) (others me n)
below me zero = tt
below me (suc q) = each_append (λ x. x < suc q) (others me q) (unless_me me q) (weaker q (others me q) (below me q)) (one_below me q)

none_more : (n : ℕ) (xs ys : List ℕ) → HasNone (λ x. x) n xs → HasNone (λ x. x) n ys → HasNone (λ x. x) n (xs ++ ys)
none_more n xs ys a b = each_append (λ x. x ≡ n → ⊥) xs ys a b

not_last : (x me q : ℕ) → x < q → HasNone (λ y. y) x (unless_me me q)
not_last x me q lt = go (q == me)
  where
    go : (b : Bool) → HasNone (λ y. y) x (if b then [] else q ∷ [])
    go true = tt
    go false = (λ e. omega (arith, e, lt), tt)

differ_more : (me q : ℕ) (xs : List ℕ) → EachIs (λ x. x < q) xs → DiffersBy (λ x. x) xs → DiffersBy (λ x. x) (xs ++ unless_me me q)
differ_more me q [] e d = go (q == me)
  where
    go : (b : Bool) → DiffersBy (λ x. x) (if b then [] else q ∷ [])
    go true = tt
    go false = (tt, tt)
differ_more me q (x ∷ xs) e d = (none_more x xs (unless_me me q) d.0 (not_last x me q e.0), differ_more me q xs e.1 d.1)

others_differ : (me n : ℕ) → DiffersBy (λ x. x) (others me n)
others_differ me zero = tt
others_differ me (suc q) = differ_more me q (others me q) (below me q) (others_differ me q)

differ_by : (links : List Link) → DiffersBy (λ x. x) (map (λ l. l.player) links) → DiffersBy (λ l. l.player) links
differ_by [] d = tt
differ_by (l ∷ links) d = ((each_map (λ x. x ≡ l.player → ⊥) (λ l. l.player) links).0 d.0, differ_by links d.1)

pub links_differ : (me n : ℕ) (r : Neighbours) → LinksOthers me n r → DiffersBy (λ l. l.player) r.links
links_differ me n r e = differ_by r.links (subst (DiffersBy (λ x. x)) (sym e) (others_differ me n))

-- ---- a new loop

seats_of : (game : Game) (me : ℕ) (links : List Link) → EachIs (λ l. (l.player < players_of game) × (l.player ≡ me → ⊥)) links → EachIs (IsOthers game me) (map (new_seat (2 * game.turns)) links)
seats_of game me [] e = tt
seats_of game me (l ∷ links) e = (record { player = e.0.0; other = e.0.1; most = refl }, seats_of game me links e.1)

not_me : (me q : ℕ) → EachIs (λ x. x ≡ me → ⊥) (unless_me me q)
not_me me q = go (q == me) refl
  where
    go : (b : Bool) → (q == me) ≡ b → EachIs (λ x. x ≡ me → ⊥) (if b then [] else q ∷ [])
    go true w = tt
    go false w = (λ e. (let y : false ≡ true = sym w ∙ eq-eqb q me e in cc), tt)

all_others : (me n : ℕ) → EachIs (λ x. x ≡ me → ⊥) (others me n)
all_others me zero = tt
all_others me (suc q) = each_append (λ x. x ≡ me → ⊥) (others me q) (unless_me me q) (all_others me q) (not_me me q)

each_both : {X : Type 0} (P Q : X → Type 0) (xs : List X) → EachIs P xs → EachIs Q xs → EachIs (λ x. P x × Q x) xs
each_both P Q [] e f = tt
each_both P Q (x ∷ xs) e f = ((e.0, f.0), each_both P Q xs e.1 f.1)

pub new_seats : (game : Game) (me : ℕ) (r : Neighbours) → LinksOthers me (players_of game) r → EachIs (IsOthers game me) (map (new_seat (2 * game.turns)) r.links)
new_seats game me r e =
    seats_of game me r.links (each_both (λ l. l.player < players_of game) (λ l. l.player ≡ me → ⊥) r.links
    ((each_map (λ x. x < players_of game) (λ l. l.player) r.links).0 (subst (EachIs (λ x. x < players_of game)) (sym e) (below me (players_of game))))
    ((each_map (λ x. x ≡ me → ⊥) (λ l. l.player) r.links).0 (subst (EachIs (λ x. x ≡ me → ⊥)) (sym e) (all_others me (players_of game)))))

-- the parts that a new loop is put together from
abbrev pub parts_of : PeerState → Neighbours → List Entry → Table → LoopState
parts_of p r over t = record { peer = p; roster = r; over = length over; kept = 0; synced = 0; phase = Fresh; table = t; handled = 0 }

pub new_table : (p : PeerState) (r : Neighbours) (t : Table) (links : List Link) (game : Game) (turns : ℕ) → links ≡ r.links → game ≡ p.game → turns ≡ game.turns → t ≡ record { lines = []; seats = map (new_seat (2 * turns)) links; accepted = 0; waiting = [] } →
    t ≡ first_table (given_by p r)
new_table p r t links game turns same is long made =
    made
    ∙ ap (λ (n : ℕ). table_for (2 * n) links) (long ∙ ap (λ (g : Game). g.turns) is)
    ∙ ap (λ (ls : List Link). table_for (2 * p.game.turns) ls) same
  where
    table_for : ℕ → List Link → Table
    table_for most ls = record { lines = []; seats = map (new_seat most) ls; accepted = 0; waiting = [] }

pub new_state : (p : PeerState) (r : Neighbours) (over : List Entry) (t : Table) → over ≡ p.entries → t ≡ first_table (given_by p r) → parts_of p r over t ≡ new_loop p r
new_state p r over t same is = ap (λ (es : List Entry). parts_of p r es t) same ∙ ap (parts_of p r p.entries) is

pub new_fits : (p : PeerState) (r : Neighbours) (over : List Entry) (t : Table) (w : Writing) (game : Game) (me : ℕ) → LinksOthers p.me (players_of p.game) r → over ≡ p.entries → t ≡ first_table (given_by p r) → game ≡ p.game → me ≡ p.me → w ≡ fresh game.id me →
    IsFit (parts_of p r over t) w
new_fits p r over t w game me links same is of_game of_me begun =
    subst (λ (x : LoopState). IsFit x w) (sym (new_state p r over t same is)) (record {
      over = omega arith;
      kept = omega arith;
      synced = omega arith;
      seats = new_seats p.game p.me r links;
      differ = differ_made (2 * p.game.turns) r.links (links_differ p.me (players_of p.game) r links);
      waiting = tt;
      writer = λ n. begun ∙ ap (λ (g : Game). fresh g.id me) of_game ∙ ap (fresh p.game.id) of_me;
    })
