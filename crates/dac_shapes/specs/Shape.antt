-- The parser as a function: it reads a configuration from left to right, up to the first fault.
use Rattle.std.specs.Prelude.{◌≡◌, ◌<◌, ℕ, zero, suc, ◌+◌, Bool, true, false, not, ◌&&◌, List, [], ◌∷◌, ◌++◌, length, map, Option, None, Some, Result, Ok, Err, nat_lt, nat_le, ◌==◌, if◌then◌else◌, codes}
use Rattle.std.specs.Str.{bytes_eq}
use Rattle.dac_base.specs.declared.limits.TheConstants.{MAX_APPS, MAX_NODES}
use Rattle.dac_tokens.specs.Digits.{value_from}
use Rattle.dac_tokens.specs.declared.fault.FaultKind.{FaultKind}
use Rattle.dac_tokens.specs.declared.fault.FaultKind.TheVariants.{TooLong, Unsupported, BadShape, NoDistributed, TwiceApp, TwiceInList, EmptyList, EmptyTuple, TooManyNodes, TooManyApps, NumberTooLarge, NameTooLong}
use Rattle.dac_tokens.specs.declared.fault.ConfigFault.{ConfigFault}
use Rattle.dac_tokens.specs.declared.token.Symbol.{Symbol}
use Rattle.dac_tokens.specs.declared.token.Symbol.TheVariants.{OpenList, CloseList, OpenTuple, CloseTuple, Comma, FullStop}
use Rattle.dac_tokens.specs.Gives.{◌>>=◌}
use Rattle.dac_tokens.specs.Words.{Word, Punctuation, Name, Number, Text, End, Located, is_end}
use Rattle.dac_tokens.specs.Stream.{Stream, tokens_of, taken}
use Rattle.dac_shapes.specs.declared.draft.SyncWait.{SyncWait}
use Rattle.dac_shapes.specs.declared.draft.SyncWait.TheVariants.{Forever, Ms}
use Rattle.dac_shapes.specs.declared.limits.TheConstants.{MAX_NAME, MAX_TEXT}
use Rattle.dac_shapes.specs.declared.param.ParamName.{ParamName}
use Rattle.dac_shapes.specs.declared.param.ParamName.TheVariants as named
use Rattle.dac_shapes.specs.Written.{App, Permission, Param, Distributed, Permissions, Mandatory, Optional, Timeout, Section, Kernel, Written, written, ms_bound}
use Rattle.dac_shapes.specs.Limits.{Seen, nothing, is_among, has_param, has_kernel, with_node, listing}

-- the rest to read, and the names seen so far
pub record State : Type 0 where
  pub left : Stream
  pub seen : Seen

-- a fault of this kind at this offset
abbrev pub fails : {A : Type 0} → FaultKind → ℕ → Result A ConfigFault
fails kind at = Err (record { kind = kind; at = at })

-- the byte of a symbol
abbrev pub byte_of : Symbol → ℕ
byte_of OpenList = 91
byte_of CloseList = 93
byte_of OpenTuple = 123
byte_of CloseTuple = 125
byte_of Comma = 44
byte_of FullStop = 46

-- whether a token is this symbol
abbrev pub is_symbol : Symbol → Word → Bool
is_symbol symbol (Punctuation other) = byte_of symbol == byte_of other
is_symbol symbol (Name name) = false
is_symbol symbol (Number negative digits) = false
is_symbol symbol Text = false
is_symbol symbol End = false

-- whether a token is a string
abbrev pub is_text : Word → Bool
is_text Text = true
is_text (Punctuation symbol) = false
is_text (Name name) = false
is_text (Number negative digits) = false
is_text End = false

-- ---- one token

-- reads the next token
abbrev pub token : State → Result (Located × State) ConfigFault
token s = do
  t ← taken s.left
  Ok (t.0, record s { left = t.1 })

-- reads the next token, which must be this symbol
unfoldable pub symbol_at : Symbol → State → Result State ConfigFault
symbol_at symbol s = do
  t ← token s
  if is_symbol symbol t.0.word then Ok t.1 else fails BadShape t.0.at

-- reads two tokens, of which the first must be this symbol; returns the second
abbrev pub after_at : Symbol → State → Result (Located × State) ConfigFault
after_at symbol s = symbol_at symbol s >>= token

-- reads the next token: true for a comma, false for the closing symbol, otherwise a fault
unfoldable pub more_at : Symbol → State → Result (Bool × State) ConfigFault
more_at close s = do
  t ← token s
  if is_symbol Comma t.0.word then Ok (true, t.1)
      else (if is_symbol close t.0.word then Ok (false, t.1)
      else fails BadShape t.0.at)

-- the name in a token; any other token is a fault
unfoldable pub atom_of : Located → Result (List ℕ) ConfigFault
atom_of t = named t.word
  where
    named : Word → Result (List ℕ) ConfigFault
    named (Name name) = Ok name
    named (Punctuation symbol) = fails BadShape t.at
    named (Number negative digits) = fails BadShape t.at
    named Text = fails BadShape t.at
    named End = fails BadShape t.at

-- the name in a token, of at most MAX_NAME bytes
unfoldable pub short_name_of : Located → Result (List ℕ) ConfigFault
short_name_of t = do
  name ← atom_of t
  if nat_lt MAX_NAME (length name) then fails NameTooLong t.at else Ok name

-- a timeout: not negative, and below the bound
abbrev pub milliseconds_of : ℕ → Bool → ℕ → Result ℕ ConfigFault
milliseconds_of at negative n =
    if negative && not (n == 0) then fails BadShape at
    else (if nat_lt n ms_bound then Ok n else fails NumberTooLarge at)

-- how long a start waits: a number, or forever
unfoldable pub wait_of : Located → Result SyncWait ConfigFault
wait_of t = waits t.word
  where
    waits : Word → Result SyncWait ConfigFault
    waits (Number negative digits) = do
      n ← milliseconds_of t.at negative (value_from 0 digits)
      Ok (Ms n)
    waits (Name name) = if bytes_eq name (codes "infinity") then Ok Forever else fails BadShape t.at
    waits (Punctuation symbol) = fails BadShape t.at
    waits Text = fails BadShape t.at
    waits End = fails BadShape t.at

-- the flag in a token: `true` or `false`
unfoldable pub flag_of : Located → Result Bool ConfigFault
flag_of t = do
  name ← atom_of t
  if bytes_eq name (codes "true") then Ok true
      else (if bytes_eq name (codes "false") then Ok false
      else fails BadShape t.at)

-- the parameter with this name, if it is one that is read
abbrev pub param_named : List ℕ → Option ParamName
param_named name =
    if bytes_eq name (codes "distributed") then Some named.Distributed
    else (if bytes_eq name (codes "permissions") then Some named.Permissions
    else (if bytes_eq name (codes "sync_nodes_mandatory") then Some named.Mandatory
    else (if bytes_eq name (codes "sync_nodes_optional") then Some named.Optional
    else (if bytes_eq name (codes "sync_nodes_timeout") then Some named.Timeout
    else None))))

-- a parameter that is read must not be among those before it
abbrev pub first_param : List Param → ℕ → Option ParamName → Result (Option ParamName) ConfigFault
first_param before at None = Ok None
first_param before at (Some name) = if has_param name before then fails BadShape at else Ok (Some name)

-- the parameter with the name in the token, after those before it
unfoldable pub param_name_of : List Param → Located → Result (Option ParamName) ConfigFault
param_name_of before t = do
  name ← atom_of t
  first_param before t.at (param_named name)

-- whether the name in the token is `kernel`, after the sections before it
unfoldable pub names_kernel : List Section → Located → Result Bool ConfigFault
names_kernel before t = do
  name ← atom_of t
  if bytes_eq name (codes "kernel") then (if has_kernel before then fails BadShape t.at else Ok true)
      else Ok false

-- the name of an application, which must not be among those before it
unfoldable pub app_name_of : List App → Located → Result (List ℕ) ConfigFault
app_name_of before t = do
  name ← short_name_of t
  if is_among name (map (λ app. app.name) before) then fails TwiceApp t.at
      else (if nat_le MAX_APPS (length before) then fails TooManyApps t.at
      else Ok name)

-- the node in a token, as the next of the current list
unfoldable pub node_of : Bool → Located → State → Result (List ℕ × State) ConfigFault
node_of repeats t s = do
  name ← short_name_of t
  if not repeats && is_among name s.seen.listed then fails TwiceInList t.at
      else (if not (is_among name s.seen.met) && nat_le MAX_NODES (length s.seen.met) then fails TooManyNodes t.at
      else Ok (name, record s { seen = with_node s.seen name }))

-- ---- lists and pairs of any items

-- the number of remaining tokens plus one, a bound for steps
abbrev pub room : State → ℕ
room s = suc (length s.left.tokens)

-- Items separated by commas, up to the closing symbol: those of `before`, and then, from the token t, those that `read`
-- returns. There is at least one, and at most n.
unfoldable pub comma_list : {A : Type 0} → (List A → Located → State → Result (A × State) ConfigFault) → Symbol → ℕ
    → List A → Located → State → Result (List A × State) ConfigFault
comma_list read close zero before t s = fails BadShape t.at
comma_list read close (suc n) before t s = do
  one ← read before t s
  more ← more_at close one.1
  if more.0
      then (do
        next ← token more.1
        comma_list read close n (before ++ one.0 ∷ []) next.0 next.1)
      else Ok (before ++ one.0 ∷ [], more.1)

-- a list in brackets, which can be empty
unfoldable pub list_of : {A : Type 0} → (List A → Located → State → Result (A × State) ConfigFault) → State
    → Result (List A × State) ConfigFault
list_of read s = do
  begun ← symbol_at OpenList s
  first ← token begun
  if is_symbol CloseList first.0.word then Ok ([], first.1)
      else comma_list read CloseList (room first.1) [] first.0 first.1

-- a pair whose opening brace is the token t: its name, and the result of `rest` after the comma
unfoldable pub pair_at : {K A : Type 0} → (Located → Result K ConfigFault)
    → (K → State → Result (A × State) ConfigFault) → Located → State → Result (A × State) ConfigFault
pair_at name_of rest t s =
    if is_symbol OpenTuple t.word
    then (do
      first ← token s
      name ← name_of first.0
      comma ← symbol_at Comma first.1
      rest name comma)
    else fails BadShape t.at

-- a value, followed by the brace that closes its pair
abbrev pub closed : {A : Type 0} → (State → Result (A × State) ConfigFault) → State → Result (A × State) ConfigFault
closed value s = do
  one ← value s
  close ← symbol_at CloseTuple one.1
  Ok (one.0, close)

-- ---- terms, which are ignored

-- Skips terms separated by commas, each by `pass`, from the token t up to the closing symbol. There are at most n.
-- Returns the token after it.
unfoldable pub terms_at : (Located → State → Result (Located × State) ConfigFault) → Symbol → ℕ → Located → State
    → Result (Located × State) ConfigFault
terms_at pass close zero t s = fails BadShape t.at
terms_at pass close (suc n) t s = do
  behind ← pass t s
  if is_symbol close behind.0.word then token behind.1
      else (if is_symbol Comma behind.0.word
      then (do
        next ← token behind.1
        terms_at pass close n next.0 next.1)
      else fails BadShape behind.0.at)

-- skips the terms between brackets, if any, and the closing one; returns the token after it
unfoldable pub terms_in : (Located → State → Result (Located × State) ConfigFault) → Symbol → ℕ → State
    → Result (Located × State) ConfigFault
terms_in pass close n s = do
  first ← token s
  if is_symbol close first.0.word then token first.1 else terms_at pass close n first.0 first.1

-- skips at most n consecutive strings; returns the token after them
unfoldable pub texts_at : ℕ → State → Result (Located × State) ConfigFault
texts_at zero s = token s
texts_at (suc n) s = do
  t ← token s
  if is_text t.0.word then texts_at n t.1 else Ok t

-- the closing counterpart of an opening bracket or brace
abbrev pub closing_of : Symbol → Option Symbol
closing_of OpenList = Some CloseList
closing_of OpenTuple = Some CloseTuple
closing_of CloseList = None
closing_of CloseTuple = None
closing_of Comma = None
closing_of FullStop = None

-- skips the term that begins with the token t, its parts by `pass`; returns the token after it
unfoldable pub term_by : (Located → State → Result (Located × State) ConfigFault) → ℕ → Located → State
    → Result (Located × State) ConfigFault
term_by pass n t s = begun t.word
  where
    closed_by : Option Symbol → Result (Located × State) ConfigFault
    closed_by (Some close) = terms_in pass close n s
    closed_by None = fails BadShape t.at

    begun : Word → Result (Located × State) ConfigFault
    begun (Name name) = token s
    begun (Number negative digits) = token s
    begun Text = texts_at n s
    begun (Punctuation symbol) = closed_by (closing_of symbol)
    begun End = fails BadShape t.at

-- skips the term that begins with the token t in at most n steps; returns the token after it
unfoldable pub term_at : ℕ → Located → State → Result (Located × State) ConfigFault
term_at zero t s = fails BadShape t.at
term_at (suc n) t s = term_by (term_at n) n t s

-- n steps suffice for a term that begins with the token t
pub record IsEnough (t : Located) (s : State) (n : ℕ) : Type 0 where
  pub end : length s.left.tokens < n
  pub token : is_end t.word ≡ false → length s.left.tokens + 1 < n

-- skips a term and the brace that closes its pair
unfoldable pub passed_at : State → Result State ConfigFault
passed_at s = do
  first ← token s
  behind ← term_at (suc (room s)) first.0 first.1
  if is_symbol CloseTuple behind.0.word then Ok behind.1 else fails BadShape behind.0.at

-- ---- node lists

-- nodes, from the token t
abbrev pub names_at : Bool → Symbol → Located → State → Result (List (List ℕ) × State) ConfigFault
names_at repeats close t s = comma_list (λ _. node_of repeats) close (room s) [] t s

-- the nodes of a tuple, whose opening brace is at this offset
abbrev pub tuple_at : ℕ → State → Result (List (List ℕ) × State) ConfigFault
tuple_at offset s = do
  first ← token s
  if is_symbol CloseTuple first.0.word then fails EmptyTuple offset else names_at false CloseTuple first.0 first.1

-- a single node or a tuple of nodes, from the token t
unfoldable pub item_at : Located → State → Result (List (List ℕ) × State) ConfigFault
item_at t s =
    if is_symbol OpenTuple t.word
    then (do
      first ← token s
      if is_symbol CloseTuple first.0.word then fails EmptyTuple t.at else names_at false CloseTuple first.0 first.1)
    else (do
      name ← node_of false t s
      Ok (name.0 ∷ [], name.1))

-- the items of a node list, from the token t
abbrev pub items_at : Located → State → Result (List (List (List ℕ)) × State) ConfigFault
items_at t s = comma_list (λ _. item_at) CloseList (room s) [] t s

-- a node list, whose opening bracket is the token t
unfoldable pub groups_at : Located → State → Result (List (List (List ℕ)) × State) ConfigFault
groups_at t s =
    if is_symbol OpenList t.word
    then (do
      first ← token s
      if is_symbol CloseList first.0.word then fails EmptyList t.at
          else items_at first.0 (record first.1 { seen = listing first.1.seen }))
    else fails BadShape t.at

-- ---- applications

-- the timeout, if the token t is a number, and the first token of the node list
unfoldable pub timeout_at : Located → State → Result (ℕ × Located × State) ConfigFault
timeout_at t s = timed t.word
  where
    timed : Word → Result (ℕ × Located × State) ConfigFault
    timed (Number negative digits) = do
      n ← milliseconds_of t.at negative (value_from 0 digits)
      comma ← symbol_at Comma s
      next ← token comma
      Ok (n, next.0, next.1)
    timed (Punctuation symbol) = Ok (0, t, s)
    timed (Name name) = Ok (0, t, s)
    timed Text = Ok (0, t, s)
    timed End = Ok (0, t, s)

-- the timeout, if written, and the node list of the application of this name
unfoldable pub app_value_at : List ℕ → State → Result (App × State) ConfigFault
app_value_at name s = do
  first ← token s
  timeout ← timeout_at first.0 first.1
  groups ← groups_at timeout.1 timeout.2
  Ok (record { name = name; timeout = timeout.0; groups = groups.0 }, groups.1)

-- an application after those before it, whose opening brace is the token t
abbrev pub app_at : List App → Located → State → Result (App × State) ConfigFault
app_at before t s = pair_at (app_name_of before) (λ name. closed (app_value_at name)) t s

-- ---- permissions

-- the permission of the application of this name
unfoldable pub permission_value_at : List ℕ → State → Result (Permission × State) ConfigFault
permission_value_at name s = do
  t ← token s
  value ← flag_of t.0
  Ok (record { name = name; value = value }, t.1)

-- a permission, whose opening brace is the token t
abbrev pub permission_at : Located → State → Result (Permission × State) ConfigFault
permission_at t s = pair_at short_name_of (λ name. closed (permission_value_at name)) t s

-- ---- parameters and sections

-- the value of the parameter of this name
unfoldable pub param_value_at : ParamName → State → Result (Param × State) ConfigFault
param_value_at named.Distributed s = do
  apps ← list_of app_at s
  Ok (Distributed apps.0, apps.1)
param_value_at named.Permissions s = do
  permissions ← list_of (λ _. permission_at) s
  Ok (Permissions permissions.0, permissions.1)
param_value_at named.Mandatory s = do
  names ← list_of (λ _. node_of true) s
  Ok (Mandatory names.0, names.1)
param_value_at named.Optional s = do
  names ← list_of (λ _. node_of true) s
  Ok (Optional names.0, names.1)
param_value_at named.Timeout s = do
  t ← token s
  wait ← wait_of t.0
  Ok (Timeout wait, t.1)

-- the rest of a parameter after its name, with the brace that closes it
unfoldable pub param_rest_at : Option ParamName → State → Result (Param × State) ConfigFault
param_rest_at (Some name) s = closed (param_value_at name) s
param_rest_at None s = do
  behind ← passed_at s
  Ok (Param.Other, behind)

-- a parameter after those before it, whose opening brace is the token t
abbrev pub param_at : List Param → Located → State → Result (Param × State) ConfigFault
param_at before t s = pair_at (param_name_of before) param_rest_at t s

-- the parameters of the section `kernel`
unfoldable pub kernel_at : State → Result (Section × State) ConfigFault
kernel_at s = do
  params ← list_of param_at s
  Ok (Kernel params.0, params.1)

-- the rest of a section after its name, which is `kernel` or not, with the brace that closes it
unfoldable pub section_rest_at : Bool → State → Result (Section × State) ConfigFault
section_rest_at true s = closed kernel_at s
section_rest_at false s = do
  behind ← passed_at s
  Ok (Section.Other, behind)

-- A section after those before it, whose opening brace is the token t. A string in its place would be the name of a
-- file to include, which isn't supported.
unfoldable pub section_at : List Section → Located → State → Result (Section × State) ConfigFault
section_at before t s =
    if is_text t.word then fails Unsupported t.at else pair_at (names_kernel before) section_rest_at t s

-- ---- the file

-- the full stop and the end after it; returns the offset of the end
unfoldable pub end_at : State → Result (ℕ × State) ConfigFault
end_at s = do
  stop ← symbol_at FullStop s
  t ← token stop
  if is_end t.0.word then Ok (t.0.at, t.1) else fails BadShape t.0.at

-- a whole file, which must list at least one application
unfoldable pub file_at : State → Result Written ConfigFault
file_at s = do
  sections ← list_of section_at s
  end ← end_at sections.1
  let draft = written sections.0 end.1.seen.met
  if length draft.apps == 0 then fails NoDistributed end.0 else Ok draft

-- a whole text, of at most MAX_TEXT bytes
unfoldable pub draft_at : List ℕ → Result Written ConfigFault
draft_at text =
    if nat_lt MAX_TEXT (length text) then fails TooLong MAX_TEXT
    else file_at (record { left = tokens_of (length text) 0 text; seen = nothing })
