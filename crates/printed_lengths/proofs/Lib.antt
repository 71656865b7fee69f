mod LittleLonger
mod OneLine
