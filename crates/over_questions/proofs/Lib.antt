mod Barring
