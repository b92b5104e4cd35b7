-- Which commands and headers a session looks at (document 01, "One client's session"). Commands go by their numbers. Assumes nothing.
use Rattle.std.specs.Prelude.{ℕ, Bool, true, false, cond, not, ◌||◌, List, [], ◌∷◌, ◌==◌}
use Rattle.std.proofs.Math.Option.{Option, none, some}
use Rattle.headers.specs.Rows.{octets_of, same, first_of}
use Rattle.headers.specs.Block.{Entry, first_value}
use Rattle.frames.specs.Grammar.{Command, number, ABORT, ACK, BEGIN, COMMIT, CONNECT, CONNECTED, DISCONNECT, ERROR, MESSAGE, NACK, RECEIPT}
use Rattle.frames.specs.declared.version.Version.{Version}
use Rattle.frames.specs.declared.version.Version.TheVariants.{V11, V12}
use Rattle.frames.specs.Grammar.{SEND, STOMP, SUBSCRIBE, UNSUBSCRIBE}
use Rattle.frames.specs.Encoding.{command_of}
use Rattle.sessions.specs.Stores.{changes}
use Rattle.sessions.specs.Deliveries.{auto_mode, client_mode, individual_mode}
use Rattle.sessions.specs.declared.store.Use.{Use}
use Rattle.sessions.specs.declared.store.Use.TheVariants.{Need, Enter, Free}
use Rattle.sessions.specs.declared.command.Header.{Header}
use Rattle.sessions.specs.declared.command.Header.TheVariants.{AcceptVersion, HeartBeat, Host, Destination, Id, Transaction, Receipt, Ack, Subscription, MessageId}
use Rattle.sessions.specs.declared.command.Kind.{Kind}
use Rattle.sessions.specs.declared.command.Kind.TheVariants.{Subscriptions, Transactions}
use Rattle.sessions.specs.declared.command.Naming.{Naming}

-- the names of the headers
abbrev pub name_of : Header → List ℕ
name_of AcceptVersion = octets_of "accept-version"
name_of HeartBeat = octets_of "heart-beat"
name_of Host = octets_of "host"
name_of Destination = octets_of "destination"
name_of Id = octets_of "id"
name_of Transaction = octets_of "transaction"
name_of Receipt = octets_of "receipt"
name_of Ack = octets_of "ack"
name_of Subscription = octets_of "subscription"
name_of MessageId = octets_of "message-id"

-- the first value of a header
abbrev pub value_of : Header → List Entry → Option (List ℕ)
value_of h es = first_value (name_of h) es

abbrev pub is_some : {A : Type 0} → Option A → Bool
is_some none = false
is_some (some x) = true

abbrev pub has : Header → List Entry → Bool
has h es = is_some (value_of h es)

-- the command of a number
abbrev pub is : Command → ℕ → Bool
is c n = n == number c

-- "unknown command": the number is no command's
abbrev pub unknown : ℕ → Bool
unknown n = not (is_some (command_of n))

-- "a server's command"
abbrev pub from_server : ℕ → Bool
from_server n = is CONNECTED n || (is ERROR n || (is MESSAGE n || is RECEIPT n))

-- CONNECT and STOMP open a session.
abbrev pub opens : ℕ → Bool
opens n = is CONNECT n || is STOMP n

-- ---- Two tables, by the protocol version and the command

-- "Needed headers, checked in this order: CONNECT and STOMP accept-version, host; SEND destination; SUBSCRIBE destination, id;
-- UNSUBSCRIBE, ACK, NACK id; BEGIN, COMMIT, ABORT transaction." In 1.1 "ACK and NACK name a message by `subscription` and
-- `message-id`", "43 checks subscription, then message-id" (document 02, C-18).
abbrev pub needed : Version → Command → List Header
needed ver CONNECT = AcceptVersion ∷ Host ∷ []
needed ver STOMP = AcceptVersion ∷ Host ∷ []
needed ver SEND = Destination ∷ []
needed ver SUBSCRIBE = Destination ∷ Id ∷ []
needed ver UNSUBSCRIBE = Id ∷ []
needed V11 ACK = Subscription ∷ MessageId ∷ []
needed V12 ACK = Id ∷ []
needed V11 NACK = Subscription ∷ MessageId ∷ []
needed V12 NACK = Id ∷ []
needed ver BEGIN = Transaction ∷ []
needed ver COMMIT = Transaction ∷ []
needed ver ABORT = Transaction ∷ []
needed ver DISCONNECT = []
needed ver CONNECTED = []
needed ver ERROR = []
needed ver MESSAGE = []
needed ver RECEIPT = []

-- an id that a command names: in which header, of which kind, and what becomes of it
abbrev pub subscription : Use → Naming
subscription u = record { header = Id; kind = Subscriptions; usage = u }

abbrev pub transaction : Use → Naming
transaction u = record { header = Transaction; kind = Transactions; usage = u }

-- the subscription that an ACK or NACK of 1.1 names
abbrev pub acknowledged_subscription : Naming
acknowledged_subscription = record { header = Subscription; kind = Subscriptions; usage = Need }

-- The ids that a command names: SUBSCRIBE and BEGIN enter one, UNSUBSCRIBE, COMMIT and ABORT free one; "SEND, ACK and NACK may carry
-- transaction, which must be open". "The id of ACK and NACK is only required"; in 1.1 "44 and 46 also check that subscription" (C-18).
abbrev pub namings : Version → Command → List Naming
namings ver SUBSCRIBE = subscription Enter ∷ []
namings ver UNSUBSCRIBE = subscription Free ∷ []
namings ver BEGIN = transaction Enter ∷ []
namings ver COMMIT = transaction Free ∷ []
namings ver ABORT = transaction Free ∷ []
namings ver SEND = transaction Need ∷ []
namings V11 ACK = transaction Need ∷ acknowledged_subscription ∷ []
namings V12 ACK = transaction Need ∷ []
namings V11 NACK = transaction Need ∷ acknowledged_subscription ∷ []
namings V12 NACK = transaction Need ∷ []
namings ver CONNECT = []
namings ver STOMP = []
namings ver DISCONNECT = []
namings ver CONNECTED = []
namings ver ERROR = []
namings ver MESSAGE = []
namings ver RECEIPT = []

-- the same by the command's number; an unknown number needs nothing and names no id
abbrev pub listed_by : {A : Type 0} → (Command → List A) → Option Command → List A
listed_by table none = []
listed_by table (some c) = table c

abbrev pub needed_by : Version → ℕ → List Header
needed_by ver n = listed_by (needed ver) (command_of n)

abbrev pub namings_by : Version → ℕ → List Naming
namings_by ver n = listed_by (namings ver) (command_of n)

-- ---- The ids that a frame names

-- an id that a frame names: its kind, what becomes of it, and the id
pub record IdUse : Type 0 where
  pub kind : Kind
  pub usage : Use
  pub id : List ℕ

-- a header that is not there names no id
abbrev pub id_use : Naming → Option (List ℕ) → Option IdUse
id_use g none = none
id_use g (some id) = some (record { kind = g.kind; usage = g.usage; id = id })

abbrev pub put_before : {A : Type 0} → Option A → List A → List A
put_before none xs = xs
put_before (some x) xs = x ∷ xs

abbrev pub id_uses : List Naming → List Entry → List IdUse
id_uses [] es = []
id_uses (g ∷ gs) es = put_before (id_use g (value_of g.header es)) (id_uses gs es)

-- the one that is entered or freed, if one is: no command has two
abbrev pub changed_id : List IdUse → Option IdUse
changed_id us = first_of (λ u. changes u.usage) us

-- The ack mode that a SUBSCRIBE asks for: "from the ack header (auto, client, client-individual; absent means auto)"; none where the
-- first value of the header is another word, or empty.
abbrev pub mode_named : Option (List ℕ) → Option ℕ
mode_named none = some auto_mode
mode_named (some w) =
    cond (same w (octets_of "auto")) (some auto_mode)
    (cond (same w (octets_of "client")) (some client_mode)
    (cond (same w (octets_of "client-individual")) (some individual_mode) none))

abbrev pub mode_asked : List Entry → Option ℕ
mode_asked es = mode_named (value_of Ack es)

-- ACK and NACK settle a delivery, by its label: the value of `id`, or in 1.1 of `message-id`, since "a 1.1 delivery's label is its
-- message-id".
abbrev pub settles : ℕ → Bool
settles n = is ACK n || is NACK n

abbrev pub label_header : Version → Header
label_header V11 = MessageId
label_header V12 = Id

abbrev pub label_named : Version → List Entry → Option (List ℕ)
label_named ver es = value_of (label_header ver) es
