-- Told: what a station told so far, and what a loop knows of it.
use Rattle.std.specs.Prelude.{◌≡◌, ℕ, true, List, [], ◌∷◌}
use Rattle.definitions.specs.Lists.{EachIs}
use Rattle.socket_station.specs.declared.answers.Standing.TheVariants.{Fresh, Open}
use Rattle.socket_station.specs.Items.{Item}
use Rattle.socket_station.specs.Standings.{standing_in}
use Rattle.socket_lines.specs.declared.line.Line.{Line}
use Rattle.loop_rules.specs.Views.{View}
use Rattle.loop_rules.specs.After.{view_of}
use Rattle.loop_rules.specs.Histories.{IsHistory}

-- the socket of the line was opened, and is open where the line is
pub record LineStands (items : List Item) (l : Line) : Type 0 where
  pub used : standing_in items l.socket ≡ Fresh → ⊥
  pub opened : l.is_open ≡ true → standing_in items l.socket ≡ Open

-- none of them has this key
abbrev pub HasNone : {X : Type 0} → (key : X → ℕ) → ℕ → List X → Type 0
HasNone key n xs = EachIs (λ x. key x ≡ n → ⊥) xs

-- no two of them have one key
abbrev pub DiffersBy : {X : Type 0} → (key : X → ℕ) → List X → Type 0
DiffersBy key [] = Unit {0}
DiffersBy key (x ∷ xs) = HasNone key (key x) xs × DiffersBy key xs

-- none of the lines is of this socket
abbrev pub IsNotIn : (socket : ℕ) → List Line → Type 0
IsNotIn s lines = HasNone (λ l. l.socket) s lines

-- the sockets differ
abbrev pub Differ : List Line → Type 0
Differ lines = DiffersBy (λ l. l.socket) lines

-- the items are a history, which shows the view, and the sockets of its lines stand as the lines say
pub record IsTold (items : List Item) (v : View) : Type 0 where
  pub allowed : IsHistory v.setting items
  pub shown : view_of v.setting items ≡ v
  pub stand : EachIs (LineStands items) v.table.lines
  pub differ : Differ v.table.lines
