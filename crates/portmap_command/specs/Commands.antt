-- What the command does as a client of the running port mapper: epmd(1) for `-names`, `-kill`, `-stop` and what they print. Profile:
-- `-dump`, lines for refusals and strange answers, and each status.
use Rattle.std.specs.{Fmt.decimal, List.flat_map}
use Rattle.std.specs.Prelude.{◌≡◌, ◌≢◌, ℕ, List, [], ◌∷◌, ◌++◌, codes, map, Bool, true, false, Option, Result, Ok, Err, ◌⊎◌}
use Rattle.std.specs.{declared.alloc.Global.Global, declared.io.ErrorKind.ErrorKind}
use Rattle.std.specs.declared.io.ErrorKind.TheVariants.{AddrNotAvailable, ConnectionRefused, HostUnreachable, NetworkDown}
use Rattle.std.specs.declared.io.ErrorKind.TheVariants.{NetworkUnreachable, OutOfMemory}
use Rattle.std.specs.declared.vec.Vec.{Vec}
use Rattle.portmap_wire.specs.{List.names_line, Request.Spells, declared.list.Line.Line}
use Rattle.portmap_wire.specs.declared.request.Request.TheVariants as request
use Rattle.portmap_core.specs.{Config.{Configuration, IsConfiguration}, Entry.Entry, Laws.Completes, Run.Run, Serving.names_line_of}
use Rattle.portmap_core.specs.{State.{State, empty_state}, declared.connection.Connection.Connection}
use Rattle.portmap_link.specs.{Once.WritesReply, declared.single.OnceFault.OnceFault}
use Rattle.portmap_operator.specs.Showing.{shown}
use Rattle.portmap_client.specs.{Answer.{SaysNames, SaysDump, SaysKill, SaysStop}, Exchange.{StreamView, Calls}}
use Rattle.portmap_client.specs.{declared.fault.ClientFault.ClientFault, declared.outcome.Kill.Kill}
use Rattle.portmap_client.specs.declared.outcome.Stop.{Stop}
use Rattle.portmap_client.specs.declared.fault.ClientFault.TheVariants as client
use Rattle.portmap_client.specs.declared.outcome.Kill.TheVariants as kill
use Rattle.portmap_client.specs.declared.outcome.Stop.TheVariants as stop
use Rattle.portmap_command.specs.{Actions.{status_of, EndsWith, failure_of_once}, declared.actions.Failure.Failure}
use Rattle.portmap_command.specs.declared.actions.Failure.TheVariants.{KillRefused, Memory, NoConnection, StopRefused}
use Rattle.portmap_command.specs.declared.actions.Failure.TheVariants.{StrangeAnswer}
use Rattle.portmap_command.specs.{declared.commands.ClientAnswer.ClientAnswer, declared.commands.Page.Page, declared.words.Ask.Ask}
use Rattle.portmap_command.specs.declared.words.Ask.TheVariants.{Dump, Kill as AskKill, Names, Stop as AskStop}
use Rattle.portmap_command.specs.declared.actions.TheConstants as the
use Rattle.portmap_command.specs.declared.commands.ClientAnswer.TheVariants as answer

-- ---- what is asked

-- The result of a call as the result of an action.
abbrev pub answered : {X : Type 0} → (X → ClientAnswer) → Result X ClientFault → Result ClientAnswer ClientFault
answered make (Ok x) = Ok (make x)
answered make (Err fault) = Err fault

-- The stream carries the request of the action and its answer.
abbrev pub Asks : Ask → StreamView → StreamView → Result ClientAnswer ClientFault → Type 0
Asks Names old new ended = (called : Result (ℕ × Vec Line Global) ClientFault) × Calls request.Names SaysNames old new called
    × (ended ≡ answered answer.Names called)
Asks AskKill old new ended = (called : Result Kill ClientFault) × Calls request.Kill SaysKill old new called
    × (ended ≡ answered answer.Kill called)
Asks (AskStop name) old new ended = (called : Result Stop ClientFault) × Calls (request.Stop name) SaysStop old new called
    × (ended ≡ answered answer.Stop called)
Asks Dump old new ended = (called : Result (ℕ × Vec ℕ Global) ClientFault) × Calls request.Dump SaysDump old new called
    × (ended ≡ answered answer.Dump called)

-- ---- what is printed

abbrev pub head_line : ℕ → List ℕ
head_line port = codes "epmd: up and running on port " ++ decimal port ++ codes " with data:" ++ 10 ∷ []

abbrev pub names_text : ℕ → List Line → List ℕ
names_text port lines = head_line port ++ flat_map names_line lines

abbrev pub dump_text : ℕ → List ℕ → List ℕ
dump_text port text = head_line port ++ text

-- The text for standard output and the status, or a failure. Names are shown so that no terminal obeys them.
abbrev pub answer_text : ClientAnswer → Result (List ℕ × ℕ) Failure
answer_text (answer.Names list) = Ok (shown (names_text list.0 list.1.items), the.DONE)
answer_text (answer.Dump dump) = Ok (shown (dump_text dump.0 dump.1.items), the.DONE)
answer_text (answer.Kill kill.Killed) = Ok (codes "Killed\n", the.DONE)
answer_text (answer.Kill kill.NotAllowed) = Err KillRefused
answer_text (answer.Stop stop.Stopped) = Ok (codes "STOPPED\n", the.DONE)
answer_text (answer.Stop stop.NoExist) = Ok (codes "NOEXIST\n", the.NOT_DONE)
answer_text (answer.Stop stop.NotAllowed) = Err StopRefused

abbrev pub failure_of_client : ClientFault → Failure
failure_of_client client.NoMemory = Memory
failure_of_client fault = StrangeAnswer

abbrev pub failure_of_connect : ErrorKind → Failure
failure_of_connect OutOfMemory = Memory
failure_of_connect kind = NoConnection

-- With this error at 127.0.0.1, the port mapper is tried at ::1: the connection is refused, or there is no route.
abbrev pub tries_ipv6 : ErrorKind → Bool
tries_ipv6 ConnectionRefused = true
tries_ipv6 HostUnreachable = true
tries_ipv6 NetworkUnreachable = true
tries_ipv6 NetworkDown = true
tries_ipv6 AddrNotAvailable = true
tries_ipv6 kind = false

-- The page has this text and status, or the failure is this one, or memory ran out for the page.
abbrev pub IsPage : Result (List ℕ × ℕ) Failure → Result Page Failure → Type 0
IsPage printed (Ok page) = printed ≡ Ok (page.text.items, page.status)
IsPage printed (Err failure) = (printed ≡ Err failure) ⊎ (failure ≡ Memory)

-- The page, or the failure, of the result of a call.
abbrev pub IsPageOf : Result ClientAnswer ClientFault → Result Page Failure → Type 0
IsPageOf (Ok a) printed = IsPage (answer_text a) printed
IsPageOf (Err fault) printed = printed ≡ Err (failure_of_client fault)

-- ---- how it ends

-- The text was written and flushed. Or the output failed: it got a prefix of the text, and errors get that failure.
pub record Prints (text : List ℕ) (printed status : ℕ) (old new : Option (List ℕ)) (broken : Bool) (silent : Type 0)
    (fails : Failure → Type 0) : Type 0 where
  pub written : Result Unit OnceFault
  pub writes : WritesReply text old new written
  pub ends : EndsWith (λ _. printed) failure_of_once status written broken (λ _. silent) fails

-- The page is printed, and errors get a line only if the output failed. Or errors get the failure, and the output is `untouched`.
abbrev pub PrintsPage : Result Page Failure → ℕ → Option (List ℕ) → Option (List ℕ) → Bool → Type 0 → Type 0 → (Failure → Type 0) → Type 0
PrintsPage (Ok page) status old new broken untouched silent fails = Prints page.text.items page.status status old new broken silent fails
    × (status ≢ the.FAILED → silent)
PrintsPage (Err failure) status old new broken untouched silent fails = (status ≡ status_of failure) × untouched × fails failure

-- ---- laws

-- After any run, `-names` prints the reply as the port mapper's port and the active names with their ports, in order of registration and
-- escaped, and as nothing else.
abbrev pub NamesArePrinted : Type 0
NamesArePrinted =
    (cfg : Configuration) (es : List Entry) (s s' : State) (slot : ℕ) (connection : Connection) (body reply : List ℕ)
    (list : ℕ × Vec Line Global)
    → IsConfiguration cfg → Run cfg empty_state es s → Completes cfg s slot connection body reply s' → Spells body request.Names
    → SaysNames reply (Ok list)
    → answer_text (answer.Names list) ≡ Ok (shown (names_text cfg.port (map names_line_of s.names.active)), the.DONE)
