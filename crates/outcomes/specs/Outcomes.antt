-- Document 01, "What the contracts have to say": two outcomes that a contract permits are the same, in value and in every lent byte.
-- `Post` is what the checker itself reads in the `ensures` of src/: an `ensures` that says less breaks the claim.
use Rattle.std.specs.Prelude.{ℕ, ◌≡◌, Bool, List, is_ok}
use denote.Ref.{MutBor, at_last}
use denote.Bor.{Bor}
use contract.Lifetimes.{Lfts}
use Rattle.answer.specs.declared.Refusal.{Refusal}
use Rattle.answer.specs.Told.{Answer, told, succeeded}
use Rattle.text.specs.declared.Range.{Range}
use Rattle.settings.specs.declared.Settings.{Settings}
use Rattle.settings.specs.declared.names.Waits.{Waits}
use Rattle.steady.specs.declared.Held.{Held}
use Rattle.kit.specs.declared.Kit.{Kit}
use Rattle.clock.specs.declared.Clock.{Clock}
use Rattle.clock.specs.declared.Turn.{Turn}
use Rattle.ptc.specs.declared.Ptc.{Ptc}
use Rattle.history.specs.declared.Store.{Store}
use Rattle.history.specs.declared.keep.Change.{Change}
use Rattle.history.specs.declared.keep.Pen.{Pen}
use Rattle.follower.specs.declared.Follower.{Follower}
use Rattle.still.specs.declared.Sight.{Sight}
use Rattle.board.specs.declared.Board.{Board}
use Rattle.words.proofs.same.Reads as same_contract
use Rattle.answer.proofs.number.Reads as number_contract
use Rattle.answer.proofs.Refusal.number.Reads as refusal_number_contract
use Rattle.text.proofs.read_line.Reads as read_line_contract
use Rattle.text.proofs.put_bytes.Reads as put_bytes_contract
use Rattle.text.proofs.put_line.Reads as put_line_contract
use Rattle.reason.proofs.put_answer.Reads as put_answer_contract
use Rattle.reason.proofs.put_block.Reads as put_block_contract
use Rattle.keys.proofs.read_line.Reads as read_key_contract
use Rattle.keys.proofs.put_line.Reads as put_key_contract
use Rattle.keys.proofs.put_lines.Reads as put_keys_contract
use Rattle.keys.proofs.line_length.Reads as line_length_contract
use Rattle.keys.proofs.lines_length.Reads as lines_length_contract
use Rattle.keys.proofs.range.Reads as range_contract
use Rattle.settings.proofs.Settings.check.Reads as check_contract
use Rattle.settings.proofs.Settings.standard.Reads as standard_contract
use Rattle.settings.proofs.Settings.test_relations.Reads as relations_contract
use Rattle.editions.proofs.read_text.Reads as read_contract
use Rattle.editions.proofs.write_text.Reads as write_contract
use Rattle.editions.proofs.text_length.Reads as settings_length_contract
use Rattle.steady.proofs.code.Reads as code_contract
use Rattle.steady.proofs.Held.is_firm.Reads as is_firm_contract
use Rattle.steady.proofs.Held.follow.Reads as follow_contract
use Rattle.throttle.proofs.pass.Reads as pass_contract
use Rattle.ptc.proofs.Ptc.command.Reads as command_contract
use Rattle.records.proofs.test_block.Reads as test_block_contract
use Rattle.records.proofs.test_blocks.Reads as test_blocks_contract
use Rattle.records.proofs.put_row.Reads as put_row_contract
use Rattle.salvage.proofs.salvage.Reads as salvage_contract
use Rattle.history.proofs.Store.fresh.Reads as fresh_store_contract
use Rattle.history.proofs.Store.is_sound.Reads as is_sound_store_contract
use Rattle.history.proofs.Store.read.Reads as read_out_contract
use Rattle.history.proofs.Store.read_length.Reads as read_length_contract
use Rattle.history.proofs.keep.Pen.keep.Reads as keep_contract
use Rattle.follower.proofs.code_at.Reads as code_at_contract
use Rattle.follower.proofs.Follower.crossed.Reads as crossed_contract
use Rattle.still.proofs.Sight.first.Reads as first_contract
use Rattle.still.proofs.Sight.next.Reads as next_contract
use Rattle.board.proofs.Board.fresh.Reads as fresh_contract
use Rattle.board.proofs.Board.block.Reads as block_contract
use Rattle.board.proofs.Board.blocks.Reads as blocks_contract
use Rattle.board.proofs.Board.is_sound.Reads as is_sound_contract
use Rattle.report.proofs.write.Reads as report_contract
use Rattle.report.proofs.text_length.Reads as report_length_contract
use Rattle.replay.proofs.opened.Reads as opened_contract
use Rattle.replay.proofs.run_blocks.Reads as run_blocks_contract
use Rattle.beside.proofs.block.Reads as beside_contract
use Rattle.beside.proofs.keep_if.Reads as keep_if_contract

-- at most one outcome is permitted
abbrev pub One : {Out : Type 0} → (Out → Type 0) → Type 0
One {Out} permits = (a b : Out) → permits a → permits b → a ≡ b

-- bytes, or the words of a ring, that are lent to be written
abbrev pub Lent : Type 0
Lent = MutBor (List ℕ)

-- and those that are lent to be read
abbrev pub Shown : Type 0
Shown = Bor (List ℕ)

-- nothing is lent to be written, so what came in is there at exit: an outcome is the value
abbrev pub OneValue : {In Out : Type 0} → (In → Out → In → Type 0) → In → Type 0
OneValue {Out = Out} post came = One (λ (r : Out). post came r came)

-- one buffer, or one value, is lent to be written: an outcome is what is answered, and what is lent as it is at exit
abbrev pub OneFilling : {In Out A : Type 0} → (In → Out → In → Type 0) → (MutBor A → In) → MutBor A → Type 0
OneFilling {Out = Out} {A = A} post with out = One (λ (o : Out × A). post (with out) o.0 (with (at_last out o.1)))

-- two are: a board and the rows of a block, or a salvaged log and its list
abbrev pub OneHolding : {In Out A B : Type 0} → (In → Out → In → Type 0) → (MutBor A → MutBor B → In) → MutBor A → MutBor B → Type 0
OneHolding {Out = Out} {A = A} {B = B} post with first second =
    One (λ (o : Out × (A × B)). post (with first second) o.0 (with (at_last first o.1.0) (at_last second o.1.1)))

-- three are: a board, a store and the rows
abbrev pub OneLending : {In Out A B C : Type 0} → (In → Out → In → Type 0) → (MutBor A → MutBor B → MutBor C → In) → MutBor A → MutBor B → MutBor C → Type 0
OneLending {Out = Out} {A = A} {B = B} {C = C} post with first second third =
    One (λ (o : Out × (A × (B × C))). post (with first second third) o.0 (with (at_last first o.1.0) (at_last second o.1.1.0) (at_last third o.1.1.1)))

-- a `requires` is no premise: without it too, one outcome is permitted
pub record OneOutcome : Type 0 where
  -- what the desk offers
  pub read : (κs : Lfts 1) (text : Shown) → OneValue (read_contract.Post κs) (text, tt)
  pub write : (κs : Lfts 2) (s : Bor Settings) (buffer : Lent) → OneFilling (write_contract.Post κs) (λ out. (s, (out, tt))) buffer
  pub check : (κs : Lfts 1) (s : Bor Settings) → OneValue (check_contract.Post κs) (s, tt)
  pub fresh : (s : Settings) → OneValue (fresh_contract.Post tt) (s, tt)
  pub block : (κs : Lfts 3) (board : MutBor Board) (log : Shown) (rows : Lent)
      → OneHolding (block_contract.Post κs) (λ b out. (b, (log, (out, tt)))) board rows
  pub is_sound : (κs : Lfts 1) (board : Bor Board) → OneValue (is_sound_contract.Post κs) (board, tt)
  pub report : (κs : Lfts 2) (board : Bor Board) (buffer : Lent) → OneFilling (report_contract.Post κs) (λ out. (board, (out, tt))) buffer
  -- document 02, P6
  pub fresh_store : OneValue (fresh_store_contract.Post tt) tt
  pub is_sound_store : (κs : Lfts 1) (store : Bor Store) → OneValue (is_sound_store_contract.Post κs) (store, tt)
  pub read_out : (κs : Lfts 2) (store : Bor Store) (buffer : Lent) → OneFilling (read_out_contract.Post κs) (λ out. (store, (out, tt))) buffer
  pub beside : (κs : Lfts 4) (board : MutBor Board) (store : MutBor Store) (input : ℕ) (log : Shown) (rows : Lent)
      → OneLending (beside_contract.Post κs) (λ b s out. (b, (s, (input, (log, (out, tt)))))) board store rows
  -- document 02, P7
  pub salvage : (κs : Lfts 3) (first : ℕ) (log : Shown) (salvaged changes : Lent)
      → OneHolding (salvage_contract.Post κs) (λ out list. (first, (log, (out, (list, tt))))) salvaged changes
  -- what else the programs call
  pub opened : (κs : Lfts 1) (text : Shown) → OneValue (opened_contract.Post κs) (text, tt)
  pub run_blocks : (κs : Lfts 3) (board : MutBor Board) (log : Shown) (rows : Lent)
      → OneHolding (run_blocks_contract.Post κs) (λ b out. (b, (log, (out, tt)))) board rows
  pub report_length : (κs : Lfts 1) (board : Bor Board) → OneValue (report_length_contract.Post κs) (board, tt)
  pub standard : OneValue (standard_contract.Post tt) tt
  pub settings_length : (κs : Lfts 1) (s : Bor Settings) → OneValue (settings_length_contract.Post κs) (s, tt)
  pub read_length : (κs : Lfts 1) (store : Bor Store) → OneValue (read_length_contract.Post κs) (store, tt)
  pub keep_if : (κs : Lfts 3) (a : Answer) (board : Board) (store : MutBor Store) (input : ℕ) (log rows : Shown)
      → OneFilling (keep_if_contract.Post κs) (λ s. (a, (board, (s, (input, (log, (rows, tt))))))) store
  pub put_answer : (κs : Lfts 1) (buffer : Lent) (a : Answer) → OneFilling (put_answer_contract.Post κs) (λ out. (out, (a, tt))) buffer
  pub put_block : (κs : Lfts 1) (buffer : Lent) (at block : ℕ) → OneFilling (put_block_contract.Post κs) (λ out. (out, (at, (block, tt)))) buffer
  pub number : (a : Answer) → OneValue (number_contract.Post tt) (a, tt)
  pub refusal_number : (r : Refusal) → OneValue (refusal_number_contract.Post tt) (r, tt)
  -- of std's `is_ok`, which tells whether a call was done
  pub is_done : (a : Answer) → is_ok a ≡ succeeded (told a)
  -- every other public function of the library whose `ensures` is no plain equation of the result
  pub test_block : (κs : Lfts 1) (done : ℕ) (log : Shown) (room : ℕ) → OneValue (test_block_contract.Post κs) (done, (log, (room, tt)))
  pub test_blocks : (κs : Lfts 1) (first : ℕ) (log : Shown) (room : ℕ) → OneValue (test_blocks_contract.Post κs) (first, (log, (room, tt)))
  pub blocks : (κs : Lfts 3) (board : MutBor Board) (log : Shown) (rows : Lent)
      → OneHolding (blocks_contract.Post κs) (λ b out. (b, (log, (out, tt)))) board rows
  pub read_line : (κs : Lfts 2) (text : Shown) (at : ℕ) (head : Shown) (range : Range) → OneValue (read_line_contract.Post κs) (text, (at, (head, (range, tt))))
  pub read_key : (κs : Lfts 1) (text : Shown) (at n : ℕ) (range : Range) → OneValue (read_key_contract.Post κs) (text, (at, (n, (range, tt))))
  pub put_bytes : (κs : Lfts 2) (buffer : Lent) (at : ℕ) (s : Shown) → OneFilling (put_bytes_contract.Post κs) (λ out. (out, (at, (s, tt)))) buffer
  pub put_line : (κs : Lfts 2) (buffer : Lent) (at : ℕ) (head : Shown) (n : ℕ)
      → OneFilling (put_line_contract.Post κs) (λ out. (out, (at, (head, (n, tt))))) buffer
  pub put_key : (κs : Lfts 1) (buffer : Lent) (at n v : ℕ) → OneFilling (put_key_contract.Post κs) (λ out. (out, (at, (n, (v, tt))))) buffer
  pub put_keys : (κs : Lfts 2) (buffer : Lent) (at first : ℕ) (values : Shown)
      → OneFilling (put_keys_contract.Post κs) (λ out. (out, (at, (first, (values, tt))))) buffer
  pub line_length : (n v : ℕ) → OneValue (line_length_contract.Post tt) (n, (v, tt))
  pub lines_length : (κs : Lfts 1) (first : ℕ) (values : Shown) → OneValue (lines_length_contract.Post κs) (first, (values, tt))
  pub range : (n : ℕ) → OneValue (range_contract.Post tt) (n, tt)
  pub relations : (κs : Lfts 1) (s : Bor Settings) → OneValue (relations_contract.Post κs) (s, tt)
  pub put_row : (κs : Lfts 1) (buffer : Lent) (row : List ℕ) → OneFilling (put_row_contract.Post κs) (λ out. (out, (row, tt))) buffer
  pub pass : (κs : Lfts 1) (ring : Lent) (c x : ℕ) → OneFilling (pass_contract.Post κs) (λ marks. (marks, (c, (x, tt)))) ring
  pub command : (κs : Lfts 1) (p : MutBor Ptc) (waits : Waits) (command : ℕ)
      → OneFilling (command_contract.Post κs) (λ q. (q, (waits, (command, tt)))) p
  pub same : (κs : Lfts 2) (a b : Shown) → OneValue (same_contract.Post κs) (a, (b, tt))
  pub code : (carried believed now : ℕ) → OneValue (code_contract.Post tt) (carried, (believed, (now, tt)))
  pub code_at : (κs : Lfts 1) (codes : Shown) (input : ℕ) → OneValue (code_at_contract.Post κs) (codes, (input, tt))
  pub keep : (κs : Lfts 2) (pen : MutBor Pen) (words : Lent) (c : Change) → OneHolding (keep_contract.Post κs) (λ p ws. (p, (ws, (c, tt)))) pen words
  pub crossed : (κs : Lfts 3) (f : MutBor Follower) (words : Lent) (pen : MutBor Pen) (orbit : ℕ) (marker : Bool) (code first : ℕ)
      → OneLending (crossed_contract.Post κs) (λ g ws p. (g, (ws, (p, (orbit, (marker, (code, (first, tt)))))))) f words pen
  pub is_firm : (κs : Lfts 1) (held : Bor Held) → OneValue (is_firm_contract.Post κs) (held, tt)
  pub follow : (κs : Lfts 2) (held : MutBor Held) (firm : Bool) (codes : Shown) → OneFilling (follow_contract.Post κs) (λ h. (h, (firm, (codes, tt)))) held
  pub first_sight : (κs : Lfts 2) (turn : Turn) (kit : Bor Kit) (held : Bor Held) → OneValue (first_contract.Post κs) (turn, (kit, (held, tt)))
  pub next_sight : (κs : Lfts 4) (sight : Sight) (kit : Bor Kit) (busy : Shown) (clock : Clock) (calm : Bool) (held : MutBor Held) (rec : Shown)
      → OneFilling (next_contract.Post κs) (λ h. (sight, (kit, (busy, (clock, (calm, (h, (rec, tt)))))))) held
