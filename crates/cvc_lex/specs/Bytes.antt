-- The bytes that the line rules name, and the limits of a file, a logical line and a token.
use Rattle.std.specs.Prelude.{ℕ, Bool, true, false, not, ◌&&◌, ◌||◌, ◌==◌, nat_lt}
use Rattle.cvc_base.specs.declared.fault.FileKind.{FileKind}
use Rattle.cvc_base.specs.declared.fault.FileKind.TheVariants.{Netlist, Models, Power}

abbrev pub is_netlist : FileKind → Bool
is_netlist Netlist = true
is_netlist Models = false
is_netlist Power = false

-- LF ends a physical line
abbrev pub is_line_feed : ℕ → Bool
is_line_feed b = b == 10

-- a space or a tab
abbrev pub is_blank : ℕ → Bool
is_blank b = (b == 32) || (b == 9)

-- a control byte other than a tab, or the byte 7F
abbrev pub is_bad : ℕ → Bool
is_bad b = (nat_lt b 32 && not (b == 9)) || (b == 127)

-- an equals sign of a netlist is a token of its own
abbrev pub is_alone : FileKind → ℕ → Bool
is_alone kind b = is_netlist kind && (b == 61)

-- the other bytes of tokens: all but blanks, and in a netlist all but equals signs too
abbrev pub is_word : FileKind → ℕ → Bool
is_word kind b = not (is_blank b) && not (is_alone kind b)

-- the most bytes of a file
abbrev pub file_limit : FileKind → ℕ
file_limit Netlist = 134217728
file_limit Models = 16777216
file_limit Power = 16777216

-- the most bytes of the texts of a logical line
abbrev pub line_limit : ℕ
line_limit = 1048576

-- the most bytes of a token
abbrev pub token_limit : ℕ
token_limit = 1024
