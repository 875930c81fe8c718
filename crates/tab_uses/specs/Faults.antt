-- What a fault of a term that is read back says.
use Rattle.tab_etf.specs.declared.fault.EtfFault.TheVariants.{NoMemory, At}
use Rattle.tab_uses.specs.declared.spelling.AgainFault.{AgainFault}
use Rattle.tab_uses.specs.declared.spelling.AgainFault.TheVariants.{Encode, Decode, OtherTerm}

-- there was no memory, or none could have been enough
abbrev pub IsOfMemory : AgainFault → Type 0
IsOfMemory (Encode e) = Unit {0}
IsOfMemory (Decode NoMemory) = Unit {0}
IsOfMemory (Decode (At f place)) = ⊥
IsOfMemory OtherTerm = ⊥
