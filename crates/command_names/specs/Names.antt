-- Names: the names of the commands, how each is written, and how many words stand after it.
use Rattle.std.specs.Prelude.{ℕ, ◌+◌, Bool, nat_le, ◌&&◌, List, [], ◌∷◌, Option, bytes_eq, codes}
use Rattle.std.specs.List.{find}
use Rattle.definitions.specs.declared.limits.TheConstants.{MOST_AUDITED}
use Rattle.command_names.specs.declared.names.Form.{Form as FormWritten}
use Rattle.command_names.specs.declared.names.Name.{Name}
use Rattle.command_names.specs.declared.names.Name.TheVariants as N

-- all the names, in the order in which clap has their commands
abbrev pub all_names : List Name
all_names = N.Accuse ∷ N.Audit ∷ N.Deposit ∷ N.Drive ∷ N.Judge ∷ N.Make ∷ N.Peer ∷ N.Post ∷ N.Root ∷ N.Schedule ∷ N.Seal ∷ N.Upgrade ∷ N.Watch ∷ []

-- how a name is written, and how many words stand after it at least and at most
pub record Form : Type 0 where
  pub text : List ℕ
  pub least : ℕ
  pub most : ℕ

abbrev pub written : (text : List ℕ) → (least most : ℕ) → Form
written text least most = record { text = text; least = least; most = most }

-- the form that the code holds
abbrev pub form_said : FormWritten → Form
form_said form = written form.text.now form.least form.most

-- the form of each name: `accuse` takes a session, roots and files, and `audit` a session and logs
abbrev pub form_of : Name → Form
form_of N.Accuse = written (codes "accuse") 3 (2 + MOST_AUDITED)
form_of N.Audit = written (codes "audit") 2 (1 + MOST_AUDITED)
form_of N.Deposit = written (codes "deposit") 5 5
form_of N.Drive = written (codes "drive") 2 3
form_of N.Judge = written (codes "judge") 2 3
form_of N.Make = written (codes "make") 1 1
form_of N.Peer = written (codes "peer") 6 7
form_of N.Post = written (codes "post") 6 6
form_of N.Root = written (codes "root") 3 3
form_of N.Schedule = written (codes "schedule") 1 1
form_of N.Seal = written (codes "seal") 4 4
form_of N.Upgrade = written (codes "upgrade") 1 1
form_of N.Watch = written (codes "watch") 3 3

-- the name as it is written
abbrev pub text_of : Name → List ℕ
text_of name = (form_of name).text

-- the fewest words after the name
abbrev pub least_of : Name → ℕ
least_of name = (form_of name).least

-- the most words after the name
abbrev pub most_of : Name → ℕ
most_of name = (form_of name).most

-- the command takes so many words
abbrev pub takes : Name → ℕ → Bool
takes name count = nat_le (least_of name) count && nat_le count (most_of name)

-- the name is written so
abbrev pub is_written : List ℕ → Name → Bool
is_written text name = bytes_eq text (text_of name)

-- the command whose name is written so, if there is one
abbrev pub named : List ℕ → Option Name
named text = find (is_written text) all_names
